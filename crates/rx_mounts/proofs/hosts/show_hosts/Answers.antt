use Rattle.std.proofs.Common.{◌≡◌, ap, subst, sym, ◌∙◌}
use Rattle.std.specs.Option.{option_copied}
use Rattle.rx_forest.specs.Forests.{forest_of}
use Rattle.rx_forest.specs.Hosts as listed
use Rattle.rx_mounts.specs.Committed.{AreCommitted}
use Rattle.rx_mounts.proofs.Placing.{in_order}
use Rattle.rx_mounts.proofs.hosts.show_hosts.Goals as goal

pub tree_of-requires : goal.tree_of-requires
tree_of-requires c =
    let are : c.deref.result.now ≡ listed.hosts (option_copied c.args.tree) = c.deref.ensures.value ∙ c.in_ok-found.ensures in
    subst AreCommitted (sym are) c.requires

pub returns-clause-ok : goal.returns-clause-ok
returns-clause-ok c =
    let all = listed.hosts (option_copied c.args.tree) in
    let are : c.deref.result.now ≡ all = c.deref.ensures.value ∙ c.in_ok-found.ensures in
    c.tree_lines.ensures.written all (in_order c.a_commit_is_in_tree_order.ensures all c.requires) (c.in_ok-shown.ensures ∙ ap forest_of are)
