use Rattle.std.proofs.Common.{Err, length, arith, ap, subst, sym}
use Rattle.rx_model.specs.State.{opening}
use Rattle.rx_root.specs.Paying.{Pays}
use Rattle.rx_root.specs.Stands.{Stands}
use Rattle.rx_top.specs.Reports.{StepLosesLines, StepBreaksOff, IsLostReport, IsShortReport}
use Rattle.rx_top.proofs.Stretches.{logged, room-opening}
use Rattle.rx_top.proofs.Reported.{writes-less, step-lost, step-short, end-short, end-done, end-lost}
use Rattle.rx_top.proofs.answer.run_root.Goals as goal

pub run_steps-requires-clause-room : goal.run_steps-requires-clause-room
run_steps-requires-clause-room g c = room-opening c.args.root.now.rendering.program (length c.args.script.now) c.args.root.now (omega (arith, c.requires.few)) c.requires.stands

pub returns-in-Err-Failed-clause-lost : goal.returns-in-Err-Failed-clause-lost
returns-in-Err-Failed-clause-lost g c _ =
    let p = c.args.root.now.rendering.program in
    let o = c.args.log.now.options in
    writes-less (StepLosesLines Pays p opening c.args.script.now o) (IsLostReport p c.args.script.now o)
    (step-lost p c.requires.bounded (c.quiet_ends.ensures p) o c.args.script.now (c.progresses.ensures p)) _ _ _ _
    (c.in-Err-Failed.ensures.lost (ap (λ e. Err e) c.in-Err-Failed.field-0-is) opening c.requires.stands)

pub returns-in-Err-OutOfMemory-clause-short : goal.returns-in-Err-OutOfMemory-clause-short
returns-in-Err-OutOfMemory-clause-short g c _ =
    let p = c.args.root.now.rendering.program in
    let o = c.args.log.now.options in
    writes-less (StepBreaksOff Pays p opening c.args.script.now o) (IsShortReport p c.args.script.now o)
    (step-short p c.requires.bounded (c.quiet_ends.ensures p) o c.args.script.now (c.progresses.ensures p)) _ _ _ _
    (c.in-Err-OutOfMemory.ensures.short (ap (λ e. Err e) c.in-Err-OutOfMemory.field-0-is) opening c.requires.stands)

pub returns-in-Err-clause-short : goal.returns-in-Err-clause-short
returns-in-Err-clause-short g c _ =
    let p = c.args.root.now.rendering.program in
    end-short p c.requires.bounded (c.quiet_ends.ensures p) c.args.log.now.options c.args.script.now (c.progresses.ensures p) _ _ _ _ c.run_steps.new.root (c.in-Ok.ensures.ok opening c.requires.stands)

pub returns-in-Ok-write_all-clause-done : goal.returns-in-Ok-write_all-clause-done
returns-in-Ok-write_all-clause-done g c _ =
    let p = c.args.root.now.rendering.program in
    let o = c.args.log.now.options in
    let r = c.in-Ok.ensures.ok opening c.requires.stands in
    let told = c.in-Ok-end_line.ensures.ok r.taken.after (subst (λ t. Stands t r.taken.after c.run_steps.new.root) (sym c.in-Ok.ensures.program) r.stands) in
    let end = logged o c.run_steps.new.log c.cut.new.self c.end_line.new.log c.bytes.result.now _ c.cut.ensures told c.in-Ok.ensures.options c.bytes.ensures in
    end-done p c.requires.bounded (c.quiet_ends.ensures p) o c.args.script.now _ _ _ _ _ c.run_steps.new.root c.bytes.result.now r end c.in-Ok-write_all.ensures.ok

pub returns-in-Err-write_all-clause-lost : goal.returns-in-Err-write_all-clause-lost
returns-in-Err-write_all-clause-lost g c _ =
    let p = c.args.root.now.rendering.program in
    let o = c.args.log.now.options in
    let r = c.in-Ok.ensures.ok opening c.requires.stands in
    let told = c.in-Ok-end_line.ensures.ok r.taken.after (subst (λ t. Stands t r.taken.after c.run_steps.new.root) (sym c.in-Ok.ensures.program) r.stands) in
    let end = logged o c.run_steps.new.log c.cut.new.self c.end_line.new.log c.bytes.result.now _ c.cut.ensures told c.in-Ok.ensures.options c.bytes.ensures in
    end-lost p c.requires.bounded (c.quiet_ends.ensures p) o c.args.script.now _ _ _ _ _ c.run_steps.new.root c.bytes.result.now r end c.in-Err-write_all.ensures.err
