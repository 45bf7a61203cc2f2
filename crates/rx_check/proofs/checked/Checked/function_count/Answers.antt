use Rattle.std.proofs.Common.{arith}
use Rattle.rx_ast.specs.Syntax.{functions, as_function}
use Rattle.rx_check.proofs.Placing.{placed_count}
use Rattle.rx_check.proofs.checked.Checked.function_count.Goals as goal

pub returns : goal.returns
returns c =
    rw (← c.self.view_is)
    (omega (
      arith,
      c.len.ensures,
      placed_count as_function c.self.inside.program.declarations c.self.inside.function_places.items (functions c.self.inside.program) c.self.invariant.function_places_are,
    ))
