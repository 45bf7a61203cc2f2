use Rattle.std.proofs.Common.{arith}
use Rattle.rx_check.proofs.Limited.{few-component_names, few-function_names, few-context_names, few-resources}
use Rattle.rx_check.proofs.checked.accept.Goals as goal

pub new-requires : goal.new-requires
new-requires c = rw c.requires.listed.components_are (omega (arith, few-component_names _ c.requires.accepted))

pub new-requires-2 : goal.new-requires-2
new-requires-2 c = rw c.requires.listed.functions_are (omega (arith, few-function_names _ c.requires.accepted))

pub new-requires-3 : goal.new-requires-3
new-requires-3 c = rw c.requires.listed.contexts_are (omega (arith, few-context_names _ c.requires.accepted))

pub new-requires-4 : goal.new-requires-4
new-requires-4 c = rw c.requires.listed.resources_are (omega (arith, few-resources _ c.requires.accepted))
