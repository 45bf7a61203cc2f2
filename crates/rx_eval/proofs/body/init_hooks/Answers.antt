use Rattle.std.specs.Prelude.{◌≡◌, Some, is_some}
use Rattle.std.proofs.Common.{ap, sym, ◌∙◌}
use Rattle.rx_rules.specs.Names.{component_at}
use Rattle.rx_eval.specs.Seen.{inputs_of}
use Rattle.rx_eval.proofs.Bodies.{hooks_given, hooks_result}
use Rattle.rx_eval.proofs.body.init_hooks.Goals as goal

pub initial_values-requires-clause-ready : goal.initial_values-requires-clause-ready
initial_values-requires-clause-ready c =
    let at : component_at c.args.checked.now c.args.component ≡ Some c.in-Some.component.now = c.in-Some.ensures.found in
    ap is_some (sym (hooks_given c.args.checked.now c.new-evaluator.result c.args.component c.in-Some.component.now (inputs_of c.args.inputs.now) c.new-evaluator.ensures at)) ∙ c.requires.ready

pub returns : goal.returns
returns c =
    let at : component_at c.args.checked.now c.args.component ≡ Some c.in-Some.component.now = c.in-Some.ensures.found in
    hooks_result _ _ c.initial_values.result (hooks_given c.args.checked.now c.new-evaluator.result c.args.component c.in-Some.component.now (inputs_of c.args.inputs.now) c.new-evaluator.ensures at)
    c.initial_values.ensures
