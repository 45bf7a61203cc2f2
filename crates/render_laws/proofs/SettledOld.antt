-- Each old node that a render may still come to is settled, if the old tree is.
use Rattle.std.specs.Prelude.{◌≡◌, ℕ, suc, List, Option, Some, None}
use Rattle.rx_base.specs.Awaits.{Awaits}
use Rattle.rx_ast.specs.Syntax.{Program}
use Rattle.rx_elem.specs.Elements.{Element}
use Rattle.rx_elem.specs.Trees.{Node, node, Forest, none, vacant, child}
use Rattle.rx_meaning.specs.Fresh.{Sight, Contexts, Part, two_lists, shape_of}
use Rattle.rx_meaning.specs.Cursor.{Frame, falling, Cursor, at_place, open_part, arrive, start, unit}
use Rattle.rx_meaning.specs.Settled.{Known, IsSettled, AllSettled, IfSettled}
use Rattle.render_laws.specs.OldNodes.{AllHave, OldHas, CursorHas}
use Rattle.render_laws.proofs.Descent.{GoesDown, arrive_has, unit_has, attempt_has, start_has}

module _ (p : Program) (k : Known) where
  all_settled : (ns : Forest) → AllSettled p k ns → AllHave (IsSettled p k) ns
  all_settled none h = tt
  all_settled (vacant ns) h = all_settled ns h
  all_settled (child n ns) h = (h.0, all_settled ns h.1)

  goes_down : GoesDown (IsSettled p k)
  goes_down (node e m ns fs) h = (all_settled ns h.1, all_settled fs h.2)

  old_settled : (old : Option Node) → IfSettled p k old → OldHas (IsSettled p k) old
  old_settled None h = tt
  old_settled (Some n) h = h

  pub start_settled : (s : Sight) (old : Option Node) → IfSettled p k old → CursorHas (IsSettled p k) (start s old)
  start_settled s old h = start_has (IsSettled p k) goes_down s old (old_settled old h)

  pub unit_settled : (s : Sight) (c : Cursor) → CursorHas (IsSettled p k) c → CursorHas (IsSettled p k) (unit s c)
  unit_settled s c h = unit_has (IsSettled p k) goes_down s c h

  pub take_settled : (n : ℕ) (fs : List Frame) (cs : Contexts) (e : Element) (o : Node)
      → CursorHas (IsSettled p k) (at_place n fs cs e (Some o)) → IsSettled p k o × CursorHas (IsSettled p k) (arrive n fs (Some o))
  take_settled n fs cs e o h = (h.0, arrive_has (IsSettled p k) goes_down n fs (Some o) h.1)

  pub attempt_settled : (n : ℕ) (fs : List Frame) (s : Sight) (cs : Contexts) (e : Element) (o : Option Node) (q f : Part) (a : Awaits) → shape_of s cs e o ≡ two_lists q f
      → CursorHas (IsSettled p k) (at_place (suc n) fs cs e o) → CursorHas (IsSettled p k) (open_part n fs (falling e o a) f)
  attempt_settled n fs s cs e o q f a shape h = attempt_has (IsSettled p k) goes_down n fs s cs e o q f a shape h
