-- What holds of a render in progress makes the turns of the machine.
use Rattle.std.specs.Prelude.{◌≡◌, ℕ, ◌+◌, ◌-◌, ◌<◌, ◌≤◌, false, [], Option, Some, IfSome, refl}
use Rattle.std.proofs.Common.{arith}
use Rattle.rx_ast.specs.Syntax.{Program}
use Rattle.rx_elem.specs.Trees.{Node}
use Rattle.rx_meaning.specs.Fresh.{made}
use Rattle.rx_model.specs.State.{State, Progress}
use Rattle.rx_model.specs.Committing.{sight_of}
use Rattle.rx_model.specs.Committing as committing
use Rattle.rx_model.specs.Laws.{IsBounded}
use Rattle.rx_model.specs.Turns.{Finishes, Yields, gone_on}
use Rattle.rx_meaning.specs.Cursor.{Cursor, ended, is_over}
use Rattle.render_laws.specs.InProgress.{InProgress}
use Rattle.run_laws.proofs.RenderBounds.{units_below}
use Rattle.render_laws.proofs.GoingLaws.{holds_unfinished, holds_last}

-- A render that has ended in a node finishes a turn.
pub finishes : (p : Program) → IsBounded p → (s : State) (g : Progress) (slice : Option ℕ) (units bodies : ℕ) (tree : Node)
    → InProgress (sight_of p s g) s.tree units bodies (ended (made tree)) → g.units < units → IfSome slice (λ n. units ≤ g.units + n)
    → g.bodies ≤ bodies → bodies - g.bodies ≤ units - g.units
    → Finishes p s g slice (committing.ended s g (record { units = units; bodies = bodies }) tree)
finishes p bounded s g slice units bodies tree h more within kept each =
    let end = holds_last h in
    record {
      counts = record { units = units; bodies = bodies };
      more_units = more;
      in_bound = omega (arith, h.units_bound, units_below (sight_of p s g) bounded.apart bounded.small s.tree);
      in_slice = within;
      bodies_kept = kept;
      fewer_bodies = end.1;
      one_a_unit = each;
      tree = tree;
      rendered = end.0;
      stretch_is = refl;
    }

-- A render that hasn't ended when its slice is used up yields.
pub yields : (p : Program) → IsBounded p → (s : State) (g : Progress) (budget bodies : ℕ) (c : Cursor)
    → InProgress (sight_of p s g) s.tree (g.units + budget) (g.bodies + bodies) c → is_over c ≡ false → bodies ≤ budget
    → Yields p s g (Some budget) (record { lines = []; bodies = bodies; after = record s { progress = Some (gone_on g budget bodies) } })
yields p bounded s g budget bodies c h busy each =
    record {
      budget = budget;
      bodies = bodies;
      sliced = refl;
      in_bound = omega (arith, holds_unfinished h busy, units_below (sight_of p s g) bounded.apart bounded.small s.tree);
      one_a_unit = each;
      stretch_is = refl;
    }
