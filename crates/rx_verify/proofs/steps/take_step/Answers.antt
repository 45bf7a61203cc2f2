use Rattle.std.proofs.Common.{inr, refl, arith}
use Rattle.std.proofs.lemmas.Result.{IfOk-weaker}
use Rattle.rx_verify.specs.Following.{all_of}
use Rattle.rx_verify.proofs.Passing.{on-ok}
use Rattle.rx_verify.proofs.Rooms.{step_left, step_turns}
use Rattle.rx_verify.proofs.Stepping.{ended-between, flush-is, judges-follows, work-is}
use Rattle.rx_verify.proofs.steps.take_step.Goals as goal

pub turn-requires-clause-stands : goal.turn-requires-clause-stands
turn-requires-clause-stands g c =
    ended-between c.args.checked.now c.requires.stands.0 c.args.plain.now c.end_event.new.self c.end_event.ensures.after c.requires.stands.1

pub turn-requires-clause-room : goal.turn-requires-clause-room
turn-requires-clause-room g c = step_turns c.args.plain.now c.end_event.new.self 1 (omega arith) c.end_event.ensures.changes c.requires.room

pub returns-in-Work-clause-judged : goal.returns-in-Work-clause-judged
returns-in-Work-clause-judged g c =
    IfOk-weaker c.turn.result _ _
    (λ agrees judged script xs f.
    judges-follows c.args.checked.now script c.args.report.now c.turn.new.place (all_of xs) c.turn.new.plain agrees
    (judged script (all_of xs) (inr (xs, refl))
    (work-is c.args.checked.now script c.args.report.now c.args.place.now c.args.step.now _ (all_of xs) c.args.plain.now c.end_event.new.self c.in-Work.is c.end_event.ensures.after f)))
    c.turn.ensures.judged

pub returns-in-Work-clause-left : goal.returns-in-Work-clause-left
returns-in-Work-clause-left g c =
    on-ok c.turn.result (λ leaves k. step_left c.args.plain.now c.end_event.new.self c.turn.new.plain 1 (omega arith) c.end_event.ensures.changes leaves k) c.turn.ensures.room

pub returns-in-Flush-clause-judged : goal.returns-in-Flush-clause-judged
returns-in-Flush-clause-judged g c =
    IfOk-weaker c.flush.result _ _
    (λ agrees judged script xs f.
    judges-follows c.args.checked.now script c.args.report.now c.flush.new.place (all_of xs) c.flush.new.plain agrees
    (judged script (all_of xs)
    (flush-is c.args.checked.now script c.args.report.now c.args.place.now c.args.step.now (all_of xs) c.args.plain.now c.end_event-in-Flush.new.self c.in-Flush.is c.end_event-in-Flush.ensures.after f)))
    c.flush.ensures.judged

pub returns-in-Flush-clause-left : goal.returns-in-Flush-clause-left
returns-in-Flush-clause-left g c =
    on-ok c.flush.result (λ leaves k. step_left c.args.plain.now c.end_event-in-Flush.new.self c.flush.new.plain 24 (omega arith) c.end_event-in-Flush.ensures.changes leaves k) c.flush.ensures.room
