use Rattle.std.proofs.Common.{ap, ◌∙◌, ◌++◌}
use Rattle.std.specs.List.{flat_map}
use Rattle.rx_host_ops.specs.Each.{removal_of}
use Rattle.rx_host_ops.proofs.Joining.{among-all}
use Rattle.rx_host_ops.proofs.between.ops_among.Goals as goal

pub returns : goal.returns
returns c =
    among-all c.args.old.now c.args.new.now c.args.all.now c.args.placed.now c.in_ok-before.before.hosts.now c.in_ok-after.after.hosts.now c.in_ok-placing.placing.items
    c.add_removals.new.ops.items c.add_creations.new.ops.items c.append.new.self.items c.add_all_contents.new.ops.items c.add_hidings.new.ops.items
    c.in_ok-before.ensures.hosts c.in_ok-after.ensures.hosts c.in_ok-placing.ensures
    (c.in_ok-add_removals.ensures ∙ ap (λ xs. xs ++ flat_map (removal_of c.in_ok-before.before.hosts.now c.in_ok-after.after.hosts.now) c.args.old.now) c.new-ops.ensures.items)
    c.in_ok-add_creations.ensures c.in_ok-append.ensures.items c.in_ok-add_all_contents.ensures c.in_ok-add_hidings.ensures
