use Rattle.std.proofs.Common.{◌∙◌, ◌++◌, ap, sym, [], if◌then◌else◌}
use Rattle.rx_elem.specs.Spots.{at_root}
use Rattle.rx_elem.specs.Trees.{is_hidden}
use Rattle.rx_effect.specs.EffectLog.{destroyed_by_hiding, layout}
use Rattle.rx_changes.specs.ChangesView.{changes_seen}
use Rattle.rx_changes.specs.Found.{hiding}
use Rattle.rx_changes.specs.StepView.{step_seen}
use Rattle.rx_changes.proofs.Bare.{without-destroyed}
use Rattle.rx_changes.proofs.Sums.{nothing-destroyed, logged-destroyed, hiding-passive}
use Rattle.rx_changes.proofs.past.add_hiding.Goals as goal

pub returns-then-not-change : goal.returns-then-not-change
returns-then-not-change c = nothing-destroyed c.args.change.now.logs (hiding (step_seen at_root c.args.change.now)) (changes_seen c.args.found.now) c.if-not-change.true

pub returns-then-not-is_hidden : goal.returns-then-not-is_hidden
returns-then-not-is_hidden c =
    let d = step_seen at_root c.args.change.now in
    without-destroyed c.args.change.now.logs (hiding d) (changes_seen c.args.found.now)
    (λ q. ap (λ b. if b then destroyed_by_hiding q d.was_visible d.old else []) (ap is_hidden (sym c.mark.ensures) ∙ sym c.is_hidden.ensures ∙ c.if-not-is_hidden.true))

pub returns : goal.returns
returns c =
    let f = changes_seen c.args.found.now in
    let d = step_seen at_root c.args.change.now in
    logged-destroyed c.args.change.now.logs (hiding d) f _ _ c.if-not-change.false
    (c.in_ok-add_hidden.ensures
    ∙ ap (λ b. f.layout.destroyed ++ (if b then destroyed_by_hiding layout d.was_visible d.old else [])) (sym (ap is_hidden (sym c.mark.ensures) ∙ sym c.is_hidden.ensures ∙ c.if-not-is_hidden.false)))
    (hiding-passive d f.passive.destroyed)
