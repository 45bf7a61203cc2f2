use Rattle.std.proofs.Common.{sym, ap, subst, ◌∙◌}
use Rattle.std.proofs.lemmas.Result.{IfOk-weaker}
use Rattle.rx_lane.specs.Lanes.{Lanes}
use Rattle.rx_meaning.specs.Outcome.{outcome}
use Rattle.rx_meaning.specs.Settled.{known_by}
use Rattle.rx_model.specs.Committing.{sight_of}
use Rattle.prune_laws.proofs.Present.{if_settled_present}
use Rattle.rx_root.specs.Rooted.{Rooted}
use Rattle.rx_root.specs.Turning.{StandsAtEnd}
use Rattle.rx_root.proofs.NoneHidden.{committed_if_none_hides}
use Rattle.rx_root.proofs.root.Root.deferral.Goals as goal

pub returns-then-not-hides : goal.returns-then-not-hides
returns-then-not-hides c p s g tree h =
    let at = subst (λ (v : Rooted). StandsAtEnd p s g tree v) (sym c.self.view_is) h in
    committed_if_none_hides g.lanes s.tree tree (sym (c.hides.ensures tree at.progress.there) ∙ c.if-not-hides.true)

pub returns : goal.returns
returns c =
    IfOk-weaker c.deferral.result _ _
    (λ waits is p s g tree h.
    let at = subst (λ (v : Rooted). StandsAtEnd p s g tree v) (sym c.self.view_is) h in
    is s.tree tree (c.in_ok-finished.ensures s.tree tree at.current at.progress.there) (if_settled_present p (known_by (sight_of p s g)) s.tree at.progress.renders.settled)
    ∙ ap (λ (ls : Lanes). outcome ls s.tree tree) (c.lanes-lanes.ensures ∙ at.progress.renders.lanes))
    c.deferral.ensures
