use Rattle.std.proofs.Common.{◌≡◌, ◌∙◌, ap}
use Rattle.rx_sched.specs.Deadlines.{later}
use Rattle.rx_plain.specs.Plained.{Plained}
use Rattle.rx_plain.proofs.Keeping.{room_same}
use Rattle.rx_plain.proofs.Taken.{time_stands}
use Rattle.rx_plain.proofs.plain.Plain.tick.Goals as goal

pub returns-clause-after : goal.returns-clause-after
returns-clause-after c p s h =
    let time : c.saturating_add-self-inside.result ≡ later c.args.self.now.now c.args.time = c.saturating_add-self-inside.ensures ∙ ap (λ (v : Plained). later v.now c.args.time) c.self.view_is in
    time_stands p s c.args.time c.args.self.now _ h (λ i. record (c.self.view_is i) { now = time i; event = c.new-self-inside.ensures i })

pub returns-clause-room : goal.returns-clause-room
returns-clause-room c k h =
    let is = c.self.view_is in
    room_same c.args.self.now _ (ap (λ (v : Plained). v.updates) is) (ap (λ (v : Plained). v.resolutions) is) (ap (λ (v : Plained). v.commits) is) (ap (λ (v : Plained). v.numbers) is) k h
