use Rattle.std.proofs.Common.{ap}
use Rattle.rx_plain.specs.Plained.{Plained}
use Rattle.rx_plain.proofs.Keeping.{room_same}
use Rattle.rx_plain.proofs.Taken.{event_stands}
use Rattle.rx_plain.proofs.plain.Plain.end_event.Goals as goal

pub returns-clause-after : goal.returns-clause-after
returns-clause-after c p s h = event_stands p s c.args.self.now _ h (λ i. record (c.self.view_is i) { event = c.new-self-inside.ensures i })

pub returns-clause-room : goal.returns-clause-room
returns-clause-room c k h =
    let is = c.self.view_is in
    room_same c.args.self.now _ (ap (λ (v : Plained). v.updates) is) (ap (λ (v : Plained). v.resolutions) is) (ap (λ (v : Plained). v.commits) is) (ap (λ (v : Plained). v.numbers) is) k h
