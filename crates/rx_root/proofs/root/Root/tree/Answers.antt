use Rattle.std.proofs.Common.{◌∙◌, ap, sym, subst}
use Rattle.rx_check.specs.Accepted.{IsAccepted}
use Rattle.rx_model.specs.Laws.{IsBounded}
use Rattle.rx_commit.specs.Shown.{Shows}
use Rattle.rx_root.specs.Rooted.{Rooted}
use Rattle.rx_root.proofs.Lines.{ok_each, tree_order}
use Rattle.rx_root.proofs.root.Root.tree.Goals as goal

pub returns-clause-ok : goal.returns-clause-ok
returns-clause-ok c =
    ok_each c.write_tree.result _ _
    (λ s h.
    let program = ap (λ (v : Rooted). v.rendering.program) c.self.view_is in
    let bounded = subst IsBounded program c.facts.ensures.bounded in
    let accepted = subst IsAccepted (c.checked.ensures ∙ program) c.program.ensures.accepted in
    let shows = subst (λ (v : Rooted). Shows s.tree s.passive v.shown) (sym c.self.view_is) h.shows in
    c.write_tree.ensures.written s.tree s.passive shows (tree_order c.args.self.now.rendering.program bounded accepted c.a_commit_is_in_tree_order.ensures s h.reached))
