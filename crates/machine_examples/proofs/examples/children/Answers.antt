use Rattle.machine_examples.proofs.ChildrenComputed.{attributes, rotated, equal_keys}
use Rattle.machine_examples.proofs.examples.children.Goals as goal

pub returns : goal.returns
returns c = record { attributes = attributes; rotated = rotated; equal_keys = equal_keys }
