use Rattle.std.specs.Prelude.{◌≡◌, Some}
use Rattle.rx_rules.specs.Names.{component_at}
use Rattle.rx_eval.specs.Seen.{inputs_of}
use Rattle.rx_eval.proofs.Accepted.{accepted-short}
use Rattle.rx_eval.proofs.Bodies.{body_gives}
use Rattle.rx_eval.proofs.body.eval_body.Goals as goal

pub body_at-requires-clause-short : goal.body_at-requires-clause-short
body_at-requires-clause-short g c =
    let at : component_at c.args.checked.now c.args.component ≡ Some c.in-Some.component.now = c.in-Some.ensures.found in
    rw c.body.ensures (accepted-short c.args.checked.now c.in-Some.ensures.accepted c.args.component c.in-Some.component.now at)

pub returns-clause-gives : goal.returns-clause-gives
returns-clause-gives g c =
    let at : component_at c.args.checked.now c.args.component ≡ Some c.in-Some.component.now = c.in-Some.ensures.found in
    body_gives c.args.checked.now c.new-evaluator.result c.args.component c.in-Some.component.now c.body.result.now (inputs_of c.args.inputs.now) c.body_at.result
    c.new-evaluator.ensures c.body.ensures at c.body_at.ensures
