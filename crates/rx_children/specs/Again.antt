-- A boundary that was hidden, and whose fallback opens again.
use Rattle.std.specs.Prelude.{◌≡◌, ℕ, ℤ, true, List, Option}
use Rattle.rx_ast.specs.Syntax.{Program}
use Rattle.rx_elem.specs.Elements.{Element}
use Rattle.rx_elem.specs.Trees.{Node, was_hidden}
use Rattle.rx_lists.specs.Shapes.{Shape}
use Rattle.rx_meaning.specs.Settled.{Known, IfSettled}
use Rattle.rx_fiber.specs.Fibers.{Fiber}
use Rattle.rx_fiber.specs.Stood.{StandsSame}
use Rattle.rx_fiber.specs.Surround.{IsElementOf}

-- The old node of a boundary, by its current fiber, is a hidden one with the boundary's element, which is shown, and stands where each context has the same value as where these are given. Its tree is settled, so what it shows was rendered from the element's own fallback.
pub record HasOldFallback (current : Shape Fiber) (ws : List (ℕ × ℤ)) (o : Option ℕ) (old : Option Node) (e : Element) : Type 0 where
  pub same : IsElementOf current o e
  pub stands : StandsSame current ws o
  pub hidden : was_hidden old ≡ true
  pub program : Program
  pub known : Known
  pub settled : IfSettled program known old
