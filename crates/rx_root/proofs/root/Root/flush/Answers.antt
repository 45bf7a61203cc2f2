use Rattle.std.proofs.Common.{refl, arith, subst}
use Rattle.rx_model.specs.Accepting.{between_events}
use Rattle.rx_model.specs.Laws.{IsBounded}
use Rattle.rx_model.specs.Machine.{flush_limit}
use Rattle.rx_root.proofs.Broken.{either_program, either_some, on_err}
use Rattle.rx_root.proofs.FlushEnds.{can_flush}
use Rattle.rx_root.proofs.StepRoom.{room_for_turns, room_left}
use Rattle.rx_root.proofs.TurnsTaken.{on_ok}
use Rattle.rx_root.proofs.root.Root.flush.Goals as goal

pub finish_renders-requires-clause-flushes : goal.finish_renders-requires-clause-flushes
finish_renders-requires-clause-flushes g c =
    let p = c.args.self.now.rendering.program in
    let s = c.requires.stands.0 in
    let h = c.end_event.ensures.after s c.requires.stands.1 in
    record {
      program = p;
      state = between_events s;
      stands = h;
      between = refl;
      ends = can_flush p (subst IsBounded h.program c.facts.ensures.bounded) (between_events s) h.reached refl;
    }

pub finish_renders-requires-clause-room : goal.finish_renders-requires-clause-room
finish_renders-requires-clause-room g c = room_for_turns c.args.self.now c.end_event.new.self flush_limit (omega arith) c.end_event.ensures.changes c.requires.room

pub returns-clause-ok : goal.returns-clause-ok
returns-clause-ok g c =
    on_ok c.finish_renders.result _ _ (λ f s h. f c.args.self.now.rendering.program (between_events s) (c.end_event.ensures.after s h) refl) c.finish_renders.ensures.takes

pub returns-clause-broken : goal.returns-clause-broken
returns-clause-broken g c =
    on_err c.finish_renders.result _ _ (λ f s h. f c.args.self.now.rendering.program (between_events s) (c.end_event.ensures.after s h) refl) c.finish_renders.ensures.breaks

pub returns-clause-stands : goal.returns-clause-stands
returns-clause-stands g c =
    either_some c.finish_renders.result c.args.self.now.rendering.program c.requires.stands.0 c.args.self.now c.finish_renders.new.self _ _ c.args.log.now c.finish_renders.new.log c.args.steps.now c.finish_renders.new.steps
    c.requires.stands.1 (returns-clause-ok g c) (returns-clause-broken g c)

pub returns-clause-program : goal.returns-clause-program
returns-clause-program g c =
    either_program c.finish_renders.result c.args.self.now.rendering.program c.requires.stands.0 c.args.self.now c.finish_renders.new.self _ _ c.args.log.now c.finish_renders.new.log c.args.steps.now c.finish_renders.new.steps
    c.requires.stands.1 (returns-clause-ok g c) (returns-clause-broken g c)

pub returns-clause-left : goal.returns-clause-left
returns-clause-left g c = room_left c.args.self.now c.end_event.new.self c.finish_renders.new.self flush_limit (omega arith) c.end_event.ensures.changes c.finish_renders.ensures.leaves
