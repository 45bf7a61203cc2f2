use Rattle.std.proofs.Common.{subst, refl}
use Rattle.rx_ast.specs.Syntax.{Program}
use Rattle.rx_root.specs.Paying.{Pays}
use Rattle.rx_top.specs.Outcome.{Writes, OrNothing}
use Rattle.rx_top.specs.Reports.{IsReport, IsLostReport, IsShortReport}
use Rattle.rx_top.proofs.Due.{nothing-written, or-nothing}
use Rattle.rx_top.proofs.answer.run_program.Goals as goal

pub returns-in-Ok-clause-done : goal.returns-in-Ok-clause-done
returns-in-Ok-clause-done g c h =
    subst (λ (p : Program). Writes (g.K.Sink.written c.args.out.now) (g.K.Sink.written c.run_root.new.out) c.args.steps.now c.run_root.new.steps (IsReport Pays p c.args.script.now c.args.log.now.options))
    c.in-Ok.ensures.program (c.run_root.ensures.done h)

pub returns-in-Ok-clause-lost : goal.returns-in-Ok-clause-lost
returns-in-Ok-clause-lost g c h =
    subst (λ (p : Program). Writes (g.K.Sink.written c.args.out.now) (g.K.Sink.written c.run_root.new.out) c.args.steps.now c.run_root.new.steps (IsLostReport p c.args.script.now c.args.log.now.options))
    c.in-Ok.ensures.program (c.run_root.ensures.lost h)

pub returns-in-Ok-clause-short : goal.returns-in-Ok-clause-short
returns-in-Ok-clause-short g c h =
    subst (λ (p : Program). Writes (g.K.Sink.written c.args.out.now) (g.K.Sink.written c.run_root.new.out) c.args.steps.now c.run_root.new.steps (OrNothing (IsShortReport p c.args.script.now c.args.log.now.options)))
    c.in-Ok.ensures.program (or-nothing (IsShortReport c.in-Ok.root.rendering.program c.args.script.now c.args.log.now.options) _ _ _ _ (c.run_root.ensures.short h))

pub returns-in-Err-clause-short : goal.returns-in-Err-clause-short
returns-in-Err-clause-short g c _ = nothing-written (IsShortReport c.args.checked c.args.script.now c.args.log.now.options) _ _ _ refl
