use Rattle.std.proofs.Common.{sym, subst}
use Rattle.rx_plain.specs.Doing.{HasDone}
use Rattle.rx_verify.specs.Steps.{step_as}
use Rattle.rx_verify.proofs.Stepping.{with-none}
use Rattle.rx_verify.proofs.steps.take.Goals as goal

pub returns-in-Tick-clause-done : goal.returns-in-Tick-clause-done
returns-in-Tick-clause-done c = λ s h quiet.
    let p = c.args.checked.now in
    subst (λ x. HasDone p (step_as p s x) c.tick.new.self c.args.log.now c.args.log.now) (sym c.in-Tick.is) (record { stands = c.tick.ensures.after p s h; written = with-none c.args.log.now })

pub returns-in-Event-clause-done : goal.returns-in-Event-clause-done
returns-in-Event-clause-done c = λ s h quiet.
    let p = c.args.checked.now in
    subst (λ x. HasDone p (step_as p s x) c.end_event.new.self c.args.log.now c.args.log.now) (sym c.in-Event.is) (record { stands = c.end_event.ensures.after p s h; written = with-none c.args.log.now })
