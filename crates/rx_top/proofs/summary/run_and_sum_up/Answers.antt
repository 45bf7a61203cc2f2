use Rattle.std.proofs.Common.{None, ◌+◌, ap, inl, length, arith, subst, sym}
use Rattle.std.proofs.lemmas.Result.{IfOk-weaker}
use Rattle.rx_lines.specs.Lines.{Written}
use Rattle.rx_model.specs.State.{opening}
use Rattle.rx_root.specs.Paying.{Pays}
use Rattle.rx_root.specs.Stands.{Stands}
use Rattle.rx_top.specs.Outcome.{plain, Writes}
use Rattle.rx_top.specs.Reports.{BreaksOffAt, StepBreaksOff}
use Rattle.rx_top.proofs.Reported.{end-breaks, writes-less, on-err}
use Rattle.rx_top.proofs.Stretches.{room-opening}
use Rattle.rx_top.proofs.summary.run_and_sum_up.Goals as goal

pub sum_up-requires-clause-stands : goal.sum_up-requires-clause-stands
sum_up-requires-clause-stands g c =
    let r = c.in_ok-run_silently.ensures.ok opening c.requires.stands in
    (r.taken.after, subst (λ q. Stands q r.taken.after c.run_silently.new.root) (sym c.in_ok-run_silently.ensures.program) r.stands)

pub sum_up-requires-clause-room : goal.sum_up-requires-clause-room
sum_up-requires-clause-room g c =
    c.in_ok-run_silently.ensures.left 1 (room-opening c.args.root.now.rendering.program (length c.args.script.now + 1) c.args.root.now (omega (arith, c.requires.few)) c.requires.stands)

pub returns-in_err-run_silently-clause-short : goal.returns-in_err-run_silently-clause-short
returns-in_err-run_silently-clause-short g c =
    let p = c.args.root.now.rendering.program in
    let broken = subst (λ o. Writes None None c.args.steps.now c.run_silently.new.steps (StepBreaksOff Pays p opening c.args.script.now o)) (ap (λ (w : Written). w.options) c.new-log.ensures)
    (c.in_err-run_silently.ensures.short opening c.requires.stands) in
    on-err c.from_residual.result (writes-less (StepBreaksOff Pays p opening c.args.script.now plain) (BreaksOffAt p c.args.script.now plain) (λ part bodies h. inl h) None None _ _ broken)

pub returns-clause-ok : goal.returns-clause-ok
returns-clause-ok g c =
    let r = c.in_ok-run_silently.ensures.ok opening c.requires.stands in
    let after = subst (λ q. Stands q r.taken.after c.run_silently.new.root) (sym c.in_ok-run_silently.ensures.program) r.stands in
    IfOk-weaker c.sum_up.result _ _ (λ line summed. record { whole = r.taken; runs = r.runs; text_is = summed r.taken.after after; counted = omega (arith, c.sum_up.ensures.steps, r.counted) }) c.sum_up.ensures.ok

pub returns-clause-short : goal.returns-clause-short
returns-clause-short g c =
    let p = c.args.root.now.rendering.program in
    let r = c.in_ok-run_silently.ensures.ok opening c.requires.stands in
    let breaks = end-breaks p c.new-log.result.options c.args.script.now None None c.args.steps.now c.run_silently.new.steps c.run_silently.new.root r in
    let shown = subst (λ o. Writes None None c.args.steps.now c.run_silently.new.steps (BreaksOffAt p c.args.script.now o)) (ap (λ (w : Written). w.options) c.new-log.ensures) breaks in
    on-err c.sum_up.result (subst (λ k. Writes None None c.args.steps.now k (BreaksOffAt p c.args.script.now plain)) (sym c.sum_up.ensures.steps) shown)
