use Rattle.std.proofs.Common.{refl, arith}
use Rattle.rx_model.specs.Accepting.{between_events}
use Rattle.rx_root.proofs.Broken.{either_program, either_some, on_err}
use Rattle.rx_root.proofs.StepRoom.{room_for_turns, room_left, stands_between}
use Rattle.rx_root.proofs.TurnsTaken.{on_ok}
use Rattle.rx_root.proofs.root.Root.work.Goals as goal

pub turn-requires-clause-stands : goal.turn-requires-clause-stands
turn-requires-clause-stands g c = stands_between c.args.self.now.rendering.program c.requires.stands.0 c.end_event.new.self (c.end_event.ensures.after c.requires.stands.0 c.requires.stands.1)

pub turn-requires-clause-room : goal.turn-requires-clause-room
turn-requires-clause-room g c = room_for_turns c.args.self.now c.end_event.new.self 1 (omega arith) c.end_event.ensures.changes c.requires.room

pub returns-clause-ok : goal.returns-clause-ok
returns-clause-ok g c =
    on_ok c.turn.result _ _ (λ f s h. f c.args.self.now.rendering.program (between_events s) (c.end_event.ensures.after s h) refl) c.turn.ensures.takes

pub returns-clause-broken : goal.returns-clause-broken
returns-clause-broken g c =
    on_err c.turn.result _ _ (λ f s h. f c.args.self.now.rendering.program (between_events s) (c.end_event.ensures.after s h) refl) c.turn.ensures.breaks

pub returns-clause-stands : goal.returns-clause-stands
returns-clause-stands g c =
    either_some c.turn.result c.args.self.now.rendering.program c.requires.stands.0 c.args.self.now c.turn.new.self _ _ c.args.log.now c.turn.new.log c.args.steps.now c.turn.new.steps c.requires.stands.1
    (returns-clause-ok g c) (returns-clause-broken g c)

pub returns-clause-program : goal.returns-clause-program
returns-clause-program g c =
    either_program c.turn.result c.args.self.now.rendering.program c.requires.stands.0 c.args.self.now c.turn.new.self _ _ c.args.log.now c.turn.new.log c.args.steps.now c.turn.new.steps c.requires.stands.1
    (returns-clause-ok g c) (returns-clause-broken g c)

pub returns-clause-left : goal.returns-clause-left
returns-clause-left g c = room_left c.args.self.now c.end_event.new.self c.turn.new.self 1 (omega arith) c.end_event.ensures.changes c.turn.ensures.leaves
