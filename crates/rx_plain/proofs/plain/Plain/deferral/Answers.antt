use Rattle.std.proofs.Common.{◌∙◌, ap, sym}
use Rattle.rx_lane.specs.Lanes.{only_transitions}
use Rattle.rx_plain.specs.Plained.{Going}
use Rattle.rx_plain.proofs.Committing.{not_deferred}
use Rattle.rx_plain.proofs.plain.Plain.deferral.Goals as goal

pub returns-then-not-only_transitions : goal.returns-then-not-only_transitions
returns-then-not-only_transitions c s x old new =
    not_deferred c.args.going.now.lanes s.tree x (sym (ap (λ (y : Going). only_transitions y.lanes) c.going.view_is) ∙ sym c.only_transitions.ensures ∙ c.if-not-only_transitions.true)
