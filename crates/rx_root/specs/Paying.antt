-- What a render costs: the bodies that it evaluates.
use Rattle.std.specs.Prelude.{◌≡◌, ◌+◌, ◌≤◌, None, length}
use Rattle.rx_ast.specs.Syntax.{Program}
use Rattle.rx_model.specs.State.{State, Progress}
use Rattle.rx_model.specs.Stretch.{Stretch}
use Rattle.rx_model.specs.Committing.{sight_of}
use Rattle.cost_laws.specs.Places.{AreEvaluated, evaluated_places}

-- A render that goes on has evaluated no more bodies in all than those of the places that the render evaluates. If it is finished it has evaluated just these: each place that has a cause, and of the others only such as lie below one that has or that is tried again, and none twice.
pub record Pays (p : Program) (s : State) (g : Progress) (r : Stretch) : Type 0 where
  pub few : g.bodies + r.bodies ≤ length (evaluated_places (sight_of p s g) s.tree)
  pub all : r.after.progress ≡ None → g.bodies + r.bodies ≡ length (evaluated_places (sight_of p s g) s.tree)
  pub are : r.after.progress ≡ None → AreEvaluated (sight_of p s g) s.tree
