-- Where a render of a program over a tree may come.
use Rattle.std.specs.Prelude.{◌≡◌, ℕ, suc, List, Option, Some}
use Rattle.rx_base.specs.Awaits.{Awaits}
use Rattle.rx_ast.specs.Syntax.{Program}
use Rattle.rx_elem.specs.Elements.{Element}
use Rattle.rx_elem.specs.Trees.{Node, element_of}
use Rattle.rx_meaning.specs.Fresh.{Sight, Contexts, Part, two_lists, shape_of}
use Rattle.rx_meaning.specs.Cursor.{Frame, falling, Cursor, at_place, open_part, arrive, start, unit, HasLevel}

-- A render of the program over this tree comes to a cursor: it starts there, or it comes there by a unit, past a whole subtree that it takes over, or past the attempt of a boundary. What it sees of the journal may grow meanwhile.
pub data IsReached (p : Program) (tree : Option Node) : Cursor → Type 0 where
  starts : (s : Sight) → s.program ≡ p → IsReached p tree (start s tree)
  by_unit : (s : Sight) (c : Cursor) → s.program ≡ p → HasLevel c → IsReached p tree c → IsReached p tree (unit s c)
  past_subtree : (n : ℕ) (fs : List Frame) (cs : Contexts) (e : Element) (x : Node) → element_of x ≡ e
      → IsReached p tree (at_place n fs cs e (Some x)) → IsReached p tree (arrive n fs (Some x))
  past_attempt : (s : Sight) (n : ℕ) (fs : List Frame) (cs : Contexts) (e : Element) (o : Option Node) (q f : Part) (a : Awaits) → s.program ≡ p → shape_of s cs e o ≡ two_lists q f
      → IsReached p tree (at_place (suc n) fs cs e o) → IsReached p tree (open_part n fs (falling e o a) f)
