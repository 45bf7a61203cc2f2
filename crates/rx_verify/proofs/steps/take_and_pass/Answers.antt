use Rattle.std.proofs.Common.{arith}
use Rattle.rx_verify.specs.Steps.{step_as}
use Rattle.rx_verify.proofs.Passing.{by-answer, few-lines, place-if}
use Rattle.rx_verify.proofs.Stepping.{silent-judges}
use Rattle.rx_verify.proofs.steps.take_and_pass.Goals as goal

pub returns-clause-judged : goal.returns-clause-judged
returns-clause-judged c = λ script left f.
    let passes = by-answer _ _ _ c.bytes.result.now c.pass.result c.requires.place c.pass.ensures.same c.pass.ensures.other c.pass.ensures.lines c.pass.ensures.inside in
    silent-judges _ c.known.ensures script _ _ _ _ left _ _ _ _ _ _ c.in_ok-take.ensures.done c.new-log.ensures c.bytes.ensures c.requires.place passes c.requires.quiet f

pub pass-requires-clause-few : goal.pass-requires-clause-few
pass-requires-clause-few c =
    let few = few-lines c.args.report.now c.args.place.now c.requires.place in
    omega (arith, few, c.requires.short, c.bytes.type_inv)

pub returns-clause-stands : goal.returns-clause-stands
returns-clause-stands c =
    let t = c.requires.stands in
    let d = c.in_ok-take.ensures.done t.0 t.1 c.requires.quiet in
    ((step_as c.args.checked.now t.0 c.args.step.now).after, d.stands)

pub returns-clause-place : goal.returns-clause-place
returns-clause-place c =
    let passes = by-answer _ _ c.pass.new.place c.bytes.result.now c.pass.result c.requires.place c.pass.ensures.same c.pass.ensures.other c.pass.ensures.lines c.pass.ensures.inside in
    place-if _ _ c.pass.new.place c.bytes.result.now c.pass.result passes
