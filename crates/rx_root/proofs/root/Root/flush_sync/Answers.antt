use Rattle.std.proofs.Common.{◌≡◌, true, false, refl, arith, sym, ap, ◌∙◌}
use Rattle.rx_lane.specs.declared.lane.Lane.TheVariants.{Sync}
use Rattle.rx_lane.specs.Lanes.{Lanes, has}
use Rattle.rx_sched.specs.Schedule.{Schedule}
use Rattle.rx_model.specs.Accepting.{between_events}
use Rattle.rx_root.specs.Rooted.{Rooted}
use Rattle.rx_root.proofs.Broken.{either_program, either_some, on_err, sync_breaks}
use Rattle.rx_root.proofs.FlushSteps.{same_leaves}
use Rattle.rx_root.proofs.StepRoom.{room_for_turns, room_left, stands_between}
use Rattle.rx_root.proofs.TurnsTaken.{on_ok, sync_none, sync_turn}
use Rattle.rx_root.proofs.root.Root.flush_sync.Goals as goal

pub turn-requires-clause-stands : goal.turn-requires-clause-stands
turn-requires-clause-stands g c = stands_between c.args.self.now.rendering.program c.requires.stands.0 c.end_event.new.self (c.end_event.ensures.after c.requires.stands.0 c.requires.stands.1)

pub turn-requires-clause-room : goal.turn-requires-clause-room
turn-requires-clause-room g c = room_for_turns c.args.self.now c.end_event.new.self 1 (omega arith) c.end_event.ensures.changes c.requires.room

pub returns-then-has-clause-ok : goal.returns-then-has-clause-ok
returns-then-has-clause-ok g c =
    on_ok c.turn.result _ _
    (λ f s h.
    let i = c.end_event.ensures.after s h in
    let pending = c.pending.ensures ∙ ap (λ (v : Rooted). v.schedule.pending) c.self.view_is ∙ ap (λ (sch : Schedule). sch.pending) i.schedule in
    let is : has s.schedule.pending Sync ≡ true = sym (ap (λ (ls : Lanes). has ls Sync) pending) ∙ sym c.has.ensures ∙ c.if-has.true in
    sync_turn c.args.self.now.rendering.program (between_events s) c.turn.new.self c.args.log.now c.turn.new.log c.args.steps.now c.turn.new.steps is
    (f c.args.self.now.rendering.program (between_events s) i refl)) c.turn.ensures.takes

pub returns-then-has-clause-broken : goal.returns-then-has-clause-broken
returns-then-has-clause-broken g c =
    on_err c.turn.result _ _
    (λ f s h.
    let i = c.end_event.ensures.after s h in
    let pending = c.pending.ensures ∙ ap (λ (v : Rooted). v.schedule.pending) c.self.view_is ∙ ap (λ (sch : Schedule). sch.pending) i.schedule in
    let is : has s.schedule.pending Sync ≡ true = sym (ap (λ (ls : Lanes). has ls Sync) pending) ∙ sym c.has.ensures ∙ c.if-has.true in
    sync_breaks c.args.self.now.rendering.program (between_events s) c.turn.new.self c.args.log.now c.turn.new.log c.args.steps.now c.turn.new.steps is
    (f c.args.self.now.rendering.program (between_events s) i refl)) c.turn.ensures.breaks

pub returns-then-has-clause-stands : goal.returns-then-has-clause-stands
returns-then-has-clause-stands g c =
    either_some c.turn.result c.args.self.now.rendering.program c.requires.stands.0 c.args.self.now c.turn.new.self _ _ c.args.log.now c.turn.new.log c.args.steps.now c.turn.new.steps c.requires.stands.1
    (returns-then-has-clause-ok g c) (returns-then-has-clause-broken g c)

pub returns-then-has-clause-program : goal.returns-then-has-clause-program
returns-then-has-clause-program g c =
    either_program c.turn.result c.args.self.now.rendering.program c.requires.stands.0 c.args.self.now c.turn.new.self _ _ c.args.log.now c.turn.new.log c.args.steps.now c.turn.new.steps c.requires.stands.1
    (returns-then-has-clause-ok g c) (returns-then-has-clause-broken g c)

pub returns-then-has-clause-left : goal.returns-then-has-clause-left
returns-then-has-clause-left g c = room_left c.args.self.now c.end_event.new.self c.turn.new.self 1 (omega arith) c.end_event.ensures.changes c.turn.ensures.leaves

pub returns-clause-ok : goal.returns-clause-ok
returns-clause-ok g c = λ s h.
    let i = c.end_event.ensures.after s h in
    let pending = c.pending.ensures ∙ ap (λ (v : Rooted). v.schedule.pending) c.self.view_is ∙ ap (λ (sch : Schedule). sch.pending) i.schedule in
    let is : has s.schedule.pending Sync ≡ false = sym (ap (λ (ls : Lanes). has ls Sync) pending) ∙ sym c.has.ensures ∙ c.if-has.false in
    sync_none c.args.self.now.rendering.program (between_events s) c.end_event.new.self c.args.log.now c.args.steps.now i is

pub returns-clause-left : goal.returns-clause-left
returns-clause-left g c = room_left c.args.self.now c.end_event.new.self c.end_event.new.self 1 (omega arith) c.end_event.ensures.changes (same_leaves 1 c.end_event.new.self)
