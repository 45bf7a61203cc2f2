-- A node that is done since its children were taken over.
use Rattle.std.specs.Prelude.{◌≡◌, ℕ, List, Option}
use Rattle.rx_ctx.specs.Contexts.{Stack}
use Rattle.rx_elem.specs.Trees.{Node}
use Rattle.rx_lists.specs.Shapes.{Shape, fiber}
use Rattle.rx_links.specs.Drafts.{Draft, taken, made, Trees}
use Rattle.rx_links.specs.Places.{Around, placed}
use Rattle.rx_meaning.specs.Cursor.{Frame}
use Rattle.rx_fiber.specs.Fibers.{Fiber}
use Rattle.rx_fiber.specs.Reading.{IsFor}
use Rattle.rx_fiber.specs.Surround.{IsAround, IsOfNode, moves_along}
use Rattle.rx_fiber.specs.Standing.{IsStack, opened}

-- The made fiber has taken over children of the current tree, and stands with them for this node, which is done; these nodes are open around it.
pub record IsPassed (t : Trees Fiber) (st : Stack) (q : ℕ) (fs : List Frame) (x : Node) : Type 0 where
  pub around : Around Fiber
  pub value : Fiber
  pub old : Option ℕ
  pub kids : Shape Fiber
  pub rest : Draft Fiber
  pub here : t.draft ≡ placed around (made q value old (taken kids) rest)
  pub is_for : (tail : Shape Fiber) → IsFor value.place x (fiber q value kids tail) tail
  pub of_node : IsOfNode t.current old
  pub surrounds : IsAround t.current around value.place rest fs
  pub stack : IsStack st (opened fs)
  pub moves : st.moves ≡ moves_along t.current around
