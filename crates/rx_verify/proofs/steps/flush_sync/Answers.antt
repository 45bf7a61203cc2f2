use Rattle.std.proofs.Common.{◌≡◌, inl, refl, sym, ap, ◌∙◌, true, false, arith}
use Rattle.std.proofs.lemmas.Result.{IfOk-weaker}
use Rattle.rx_lane.specs.declared.lane.Lane.TheVariants as lane
use Rattle.rx_lane.specs.Lanes.{Lanes, has}
use Rattle.rx_verify.proofs.Passing.{on-ok}
use Rattle.rx_verify.proofs.Rooms.{step_left}
use Rattle.rx_verify.proofs.Stepping.{judges-follows, sync-follows, sync-passes}
use Rattle.rx_verify.proofs.steps.flush_sync.Goals as goal

pub returns-then-is_due-clause-judged : goal.returns-then-is_due-clause-judged
returns-then-is_due-clause-judged g c =
    let due : has c.args.plain.now.schedule.pending lane.Sync ≡ true = sym (c.has-is_due.ensures ∙ ap (λ (l : Lanes). has l lane.Sync) c.pending.ensures) ∙ c.if-is_due.true in
    IfOk-weaker c.turn.result _ _
    (λ agrees judged script left f.
    judges-follows c.args.checked.now script c.args.report.now c.turn.new.place left c.turn.new.plain agrees
    (judged script left (inl refl) (sync-follows c.args.checked.now script c.args.report.now c.args.place.now left c.args.plain.now c.end_event.new.self c.end_event.ensures.after due f))) c.turn.ensures.judged

pub returns-then-is_due-clause-left : goal.returns-then-is_due-clause-left
returns-then-is_due-clause-left g c =
    on-ok c.turn.result (λ leaves k. step_left c.args.plain.now c.end_event.new.self c.turn.new.plain 1 (omega arith) c.end_event.ensures.changes leaves k) c.turn.ensures.room

pub returns-else-is_due-clause-judged : goal.returns-else-is_due-clause-judged
returns-else-is_due-clause-judged g c = λ script left f.
    let due : has c.args.plain.now.schedule.pending lane.Sync ≡ false = sym (c.has-is_due.ensures ∙ ap (λ (l : Lanes). has l lane.Sync) c.pending.ensures) ∙ c.if-is_due.false in
    sync-passes c.args.checked.now script c.args.report.now c.args.place.now left c.args.plain.now c.end_event.new.self c.end_event.ensures.after due f
