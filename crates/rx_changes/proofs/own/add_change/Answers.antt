use Rattle.std.proofs.Common.{◌∙◌, ap, sym}
use Rattle.std.proofs.lemmas.Result.{on_ok_weaker}
use Rattle.rx_elem.specs.Spots.{at_root}
use Rattle.rx_elem.specs.Trees.{boundary_in, caught_in}
use Rattle.rx_node.specs.MarkView.{mark_seen}
use Rattle.rx_changes.specs.ChangesView.{changes_seen}
use Rattle.rx_changes.specs.StepView.{step_seen}
use Rattle.rx_changes.proofs.Telling.{catches-none, hides-none, tells}
use Rattle.rx_changes.proofs.own.add_change.Goals as goal

pub returns-in-Host : goal.returns-in-Host
returns-in-Host c =
    let f = changes_seen c.args.found.now in
    let d = step_seen at_root c.args.change.now in
    on_ok_weaker c.add_placed.result
    (λ e. tells d f _ _ _ e
    (catches-none d f.caught (ap caught_in (sym c.mark.ensures) ∙ ap (λ m. caught_in (mark_seen m)) c.in-Host.is))
    (hides-none d f.hidden (ap boundary_in (sym c.mark.ensures) ∙ ap (λ m. boundary_in (mark_seen m)) c.in-Host.is)))
    c.add_placed.ensures
