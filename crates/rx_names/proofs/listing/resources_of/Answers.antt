use Rattle.std.proofs.Common.{arith}
use Rattle.std.proofs.lemmas.Grind.{common_steps}
use Rattle.std.specs.Prelude.{flat_map}
use Rattle.rx_ast.specs.Syntax.{components}
use Rattle.rx_rules.specs.Names.{resources_of}
use Rattle.rx_names.proofs.Distinct.{gathered-from_none}
use Rattle.rx_names.proofs.listing.resources_of.Goals as goal

pub returns : goal.returns
returns c = grind (arith, common_steps, c.loop-declaration.invariant, gathered-from_none (flat_map resources_of (components c.args.program.now)))
