use Rattle.std.proofs.Common.{◌∙◌, ap}
use Rattle.rx_sched.specs.Schedule.{next}
use Rattle.rx_plain.specs.Plained.{Plained}
use Rattle.rx_plain.proofs.Turning.{lanes_in_progress}
use Rattle.rx_plain.proofs.plain.Plain.next_turn.Goals as goal

pub returns : goal.returns
returns c p s h =
    let schedule = ap (λ (v : Plained). v.schedule) c.self.view_is ∙ h.schedule in
    let lanes = c.lanes_going.ensures ∙ lanes_in_progress p s s.progress c.args.self.now.going h.progress in
    c.next.ensures.choice ∙ (λ i. next (schedule i) (lanes i))
