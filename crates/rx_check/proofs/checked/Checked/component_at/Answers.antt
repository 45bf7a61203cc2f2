use Rattle.std.specs.Prelude.{Some, None}
use Rattle.std.proofs.Common.{refl, ◌∙◌}
use Rattle.rx_ast.specs.Syntax.{components, as_component}
use Rattle.rx_check.proofs.Placing.{placed_as, no_component}
use Rattle.rx_check.proofs.checked.Checked.component_at.Goals as goal

pub returns-in_err-component-clause-found : goal.returns-in_err-component-clause-found
returns-in_err-component-clause-found c =
    rw (c.from_residual.ensures, ← c.self.view_is)
    (placed_as as_component c.self.inside.program.declarations c.self.inside.component_places.items (components c.self.inside.program) c.self.invariant.component_places_are c.args.number None
    (rw (← c.declarations-declarations.ensures, ← c.deref.ensures.value) c.in_err-component.ensures))

pub returns-in-Component-clause-found : goal.returns-in-Component-clause-found
returns-in-Component-clause-found c =
    rw (← c.self.view_is) (placed_as as_component c.self.inside.program.declarations c.self.inside.component_places.items (components c.self.inside.program) c.self.invariant.component_places_are c.args.number (Some c.in_ok-component.field-0.now)
    (rw (← c.declarations-declarations.ensures, ← c.deref.ensures.value) c.in_ok-component.ensures)
    ∙ rw (← c.branch.view_is, c.in-Component.is) refl)

pub returns-in_default : goal.returns-in_default
returns-in_default c = record {
  found = rw (← c.self.view_is) (placed_as as_component c.self.inside.program.declarations c.self.inside.component_places.items (components c.self.inside.program) c.self.invariant.component_places_are c.args.number (Some c.in_ok-component.field-0.now)
      (rw (← c.declarations-declarations.ensures, ← c.deref.ensures.value) c.in_ok-component.ensures)
      ∙ rw (← c.branch.view_is) (no_component c.branch.inside.kind c.in_default.not-Component));
  accepted = rw (← c.self.view_is) c.self.invariant.accepted;
}
