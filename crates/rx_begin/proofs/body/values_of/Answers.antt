use Rattle.std.proofs.Common.{ap}
use Rattle.rx_meaning.specs.Expressions.{answers_of}
use Rattle.rx_begin.proofs.body.values_of.Goals as goal

pub returns-in_ok-values-in-Some-clause-states : goal.returns-in_ok-values-in-Some-clause-states
returns-in_ok-values-in-Some-clause-states c st done keeps = c.render_values.ensures.states c.args.scene.now.checked.now st (ap answers_of c.new-fold.ensures) done keeps
