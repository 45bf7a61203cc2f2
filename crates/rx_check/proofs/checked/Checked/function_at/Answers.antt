use Rattle.std.specs.Prelude.{Some, None}
use Rattle.std.proofs.Common.{refl, ◌∙◌}
use Rattle.rx_ast.specs.Syntax.{functions, as_function}
use Rattle.rx_check.proofs.Placing.{placed_as, no_function}
use Rattle.rx_check.proofs.checked.Checked.function_at.Goals as goal

pub returns-in_err-function-clause-found : goal.returns-in_err-function-clause-found
returns-in_err-function-clause-found c =
    rw (c.from_residual.ensures, ← c.self.view_is)
    (placed_as as_function c.self.inside.program.declarations c.self.inside.function_places.items (functions c.self.inside.program) c.self.invariant.function_places_are c.args.number None
    (rw (← c.declarations-declarations.ensures, ← c.deref.ensures.value) c.in_err-function.ensures))

pub returns-in-Function-clause-found : goal.returns-in-Function-clause-found
returns-in-Function-clause-found c =
    rw (← c.self.view_is) (placed_as as_function c.self.inside.program.declarations c.self.inside.function_places.items (functions c.self.inside.program) c.self.invariant.function_places_are c.args.number (Some c.in_ok-function.field-0.now)
    (rw (← c.declarations-declarations.ensures, ← c.deref.ensures.value) c.in_ok-function.ensures)
    ∙ rw (← c.branch.view_is, c.in-Function.is) refl)

pub returns-in_default : goal.returns-in_default
returns-in_default c = record {
  found = rw (← c.self.view_is) (placed_as as_function c.self.inside.program.declarations c.self.inside.function_places.items (functions c.self.inside.program) c.self.invariant.function_places_are c.args.number (Some c.in_ok-function.field-0.now)
      (rw (← c.declarations-declarations.ensures, ← c.deref.ensures.value) c.in_ok-function.ensures)
      ∙ rw (← c.branch.view_is) (no_function c.branch.inside.kind c.in_default.not-Function));
  accepted = rw (← c.self.view_is) c.self.invariant.accepted;
}
