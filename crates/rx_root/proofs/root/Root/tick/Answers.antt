use Rattle.std.proofs.Common.{◌≡◌, ◌∙◌, ap}
use Rattle.rx_sched.specs.Deadlines.{later}
use Rattle.rx_model.specs.Accepting.{between_events}
use Rattle.rx_root.specs.Rooted.{Rooted}
use Rattle.rx_root.proofs.Broken.{for_some, room_same}
use Rattle.rx_root.proofs.Taken.{time_stands}
use Rattle.rx_root.proofs.root.Root.tick.Goals as goal

pub returns-clause-after : goal.returns-clause-after
returns-clause-after c s h =
    let time : c.saturating_add-self-inside.result ≡ later c.args.self.now.now c.args.time = c.saturating_add-self-inside.ensures ∙ ap (λ (v : Rooted). later v.now c.args.time) c.self.view_is in
    time_stands c.args.self.now.rendering.program s c.args.time c.args.self.now _ h (λ i. record (c.self.view_is i) { now = time i; event = c.new-self-inside.ensures i })

pub returns-clause-stands : goal.returns-clause-stands
returns-clause-stands c = let s = c.requires.stands.0 in for_some c.args.self.now.rendering.program (record (between_events s) { now = later s.now c.args.time }) _ (returns-clause-after c s c.requires.stands.1)

pub returns-clause-room : goal.returns-clause-room
returns-clause-room c k h =
    let is = c.self.view_is in
    room_same c.args.self.now _ (ap (λ (v : Rooted). v.updates) is) (ap (λ (v : Rooted). v.resolutions) is) (ap (λ (v : Rooted). v.commits) is) (ap (λ (v : Rooted). v.numbers) is) k h
