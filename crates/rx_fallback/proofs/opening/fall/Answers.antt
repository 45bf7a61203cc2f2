use Rattle.std.proofs.Common.{inr}
use Rattle.rx_children.proofs.Nodes.{bare_made}
use Rattle.rx_fallback.proofs.Falling.{left_bare, left_held, keeps_none, keeps_some}
use Rattle.rx_fallback.proofs.opening.fall.Goals as goal

pub alternate-requires : goal.alternate-requires
alternate-requires c = inr (bare_made c.args.tree.now c.args.at c.place_facts.ensures (left_bare c.args.tree.now c.args.at c.args.awaits c.requires))

pub old_primary-requires : goal.old_primary-requires
old_primary-requires c =
    left_held c.args.tree.now c.args.at c.args.awaits c.alternate.result c.requires c.place_facts.ensures
    (c.alternate.ensures.made (bare_made c.args.tree.now c.args.at c.place_facts.ensures (left_bare c.args.tree.now c.args.at c.args.awaits c.requires)))

pub fall_alone-requires-clause-bare : goal.fall_alone-requires-clause-bare
fall_alone-requires-clause-bare c = left_bare c.args.tree.now c.args.at c.args.awaits c.requires

pub fall_beside-requires-clause-bare : goal.fall_beside-requires-clause-bare
fall_beside-requires-clause-bare c = left_bare c.args.tree.now c.args.at c.args.awaits c.requires

pub fall_alone-requires-clause-gone : goal.fall_alone-requires-clause-gone
fall_alone-requires-clause-gone c =
    keeps_none c.args.tree.now c.args.at c.args.awaits c.alternate.result c.old_primary.result c.facts.ensures.linked c.place_facts.ensures
    (c.alternate.ensures.made (bare_made c.args.tree.now c.args.at c.place_facts.ensures (left_bare c.args.tree.now c.args.at c.args.awaits c.requires)))
    c.old_primary.ensures.list c.in-None.is

pub fall_beside-requires-clause-keeps : goal.fall_beside-requires-clause-keeps
fall_beside-requires-clause-keeps c =
    keeps_some c.args.tree.now c.args.at c.args.awaits c.alternate.result c.old_primary.result c.in-Some.field-0 c.facts.ensures.linked c.place_facts.ensures
    (c.alternate.ensures.made (bare_made c.args.tree.now c.args.at c.place_facts.ensures (left_bare c.args.tree.now c.args.at c.args.awaits c.requires)))
    c.old_primary.ensures.list c.in-Some.is c.old_primary.ensures.held
