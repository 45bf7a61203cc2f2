use Rattle.std.proofs.Common.{ap, ◌∙◌}
use Rattle.std.proofs.lemmas.Result.{on_ok_weaker}
use Rattle.rx_forest.specs.Hosts.{by_name}
use Rattle.rx_host_ops.specs.Attrs.{seen}
use Rattle.rx_host_ops.proofs.Sorting.{attr_ops-all}
use Rattle.rx_host_ops.proofs.attrs.add_attr_ops.Goals as goal

pub returns : goal.returns
returns c =
    on_ok_weaker c.add_sets.result
    (λ all. attr_ops-all c.args.host (by_name c.args.old.now) (by_name c.args.new.now) (seen c.deref.result.now) (seen c.deref-2.result.now) (seen c.deref-3.result.now) (seen c.deref-4.result.now)
    c.args.ops.now.items c.add_unsets.new.ops.items c.add_sets.new.ops.items
    (ap seen c.deref.ensures.value ∙ c.in_ok-old.ensures) (ap seen c.deref-2.ensures.value ∙ c.in_ok-new.ensures)
    (ap seen c.deref-3.ensures.value ∙ c.in_ok-old.ensures) (ap seen c.deref-4.ensures.value ∙ c.in_ok-new.ensures)
    c.in_ok-add_unsets.ensures all)
    c.add_sets.ensures
