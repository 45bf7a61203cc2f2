-- Each render of a program that is accepted is within the bounds of the machine.
use Rattle.std.specs.Prelude.{◌≡◌, ◌<◌, ◌≤◌, Option, length}
use Rattle.std.proofs.Common.{arith, subst}
use Rattle.rx_ast.specs.Syntax.{Program}
use Rattle.rx_rules.specs.Bounds.{node_bound}
use Rattle.rx_rules.specs.Versions.{node_limit}
use Rattle.rx_rules.specs.Keys.{KeysApart}
use Rattle.rx_elem.specs.Trees.{Node}
use Rattle.rx_meaning.specs.Fresh.{Sight, IsTree}
use Rattle.rx_meaning.specs.Touched.{visits}
use Rattle.rx_meaning.specs.Counts.{each_unit, whole}
use Rattle.rx_model.specs.Laws.{IsBounded}
use Rattle.rx_model.specs.Turns.{unit_bound}
use Rattle.rx_model.specs.Kept.{IsRenderBounded}
use Rattle.rx_model.proofs.NeverWaits.{app_never_waits}
use Rattle.render_laws.proofs.Bounded.{given_within, units_within, visits_within}

-- No render reaches the bound of the machine.
pub units_below : (s : Sight) → KeysApart s.program → node_bound s.program ≤ node_limit s.program → (old : Option Node) → whole each_unit s old < unit_bound s.program
units_below s apart small old = omega (arith, units_within s apart small old)

-- Each render of a program that is accepted is within the bound.
pub render_within : (p : Program) → IsBounded p → (s : Sight) (old : Option Node) → s.program ≡ p → IsTree p old
    → IsRenderBounded p s old
render_within p bounded s old same t =
    let new = app_never_waits p bounded s old same in
    record {
      tree = new.0;
      rendered = new.1;
      nodes = given_within s p same bounded.apart bounded.small old t new.0 new.1;
      attempts = subst (λ (q : Program). KeysApart q → node_bound q ≤ node_limit q → length (visits s old) ≤ node_bound q) same
          (λ a k. visits_within s a k old) bounded.apart bounded.small;
    }
