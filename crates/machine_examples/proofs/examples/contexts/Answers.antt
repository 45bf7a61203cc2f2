use Rattle.machine_examples.proofs.ContextsComputed.{inside_and_outside, placed_twice}
use Rattle.machine_examples.proofs.examples.contexts.Goals as goal

pub returns : goal.returns
returns c = record { inside_and_outside = inside_and_outside; placed_twice = placed_twice }
