use Rattle.std.proofs.Common.{ap}
use Rattle.rx_model.specs.Accepting.{between_events}
use Rattle.rx_root.specs.Rooted.{Rooted}
use Rattle.rx_root.proofs.Broken.{for_some, room_same}
use Rattle.rx_root.proofs.Taken.{event_stands}
use Rattle.rx_root.proofs.root.Root.end_event.Goals as goal

pub returns-clause-after : goal.returns-clause-after
returns-clause-after c s h = event_stands c.args.self.now.rendering.program s c.args.self.now _ h (λ i. record (c.self.view_is i) { event = c.new-self-inside.ensures i })

pub returns-clause-stands : goal.returns-clause-stands
returns-clause-stands c = for_some c.args.self.now.rendering.program (between_events c.requires.stands.0) _ (returns-clause-after c c.requires.stands.0 c.requires.stands.1)

pub returns-clause-room : goal.returns-clause-room
returns-clause-room c k h =
    let is = c.self.view_is in
    room_same c.args.self.now _ (ap (λ (v : Rooted). v.updates) is) (ap (λ (v : Rooted). v.resolutions) is) (ap (λ (v : Rooted). v.commits) is) (ap (λ (v : Rooted). v.numbers) is) k h
