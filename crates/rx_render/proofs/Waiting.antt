-- A hidden boundary waits again, if the current fiber stands that a clone was made for.
use Rattle.std.specs.Prelude.{◌≡◌, ℕ, ℤ, Bool, true, false, List, Option, Some, None}
use Rattle.std.proofs.Common.{sym, ap, subst}
use Rattle.rx_base.specs.Awaits.{Awaits}
use Rattle.rx_susp.specs.declared.boundary.BoundaryState.TheVariants.{Hidden}
use Rattle.rx_elem.specs.Elements.{Element, Elements, Key, listed, boundary}
use Rattle.rx_elem.specs.Trees.{of_boundary, Node, node, Forest, none, vacant, child, is_hidden, mark_of, children_of, element_of}
use Rattle.rx_lists.specs.Shapes.{Shape}
use Rattle.rx_links.specs.Readers.{IsLinked}
use Rattle.rx_meaning.specs.Again.{AllValuesAgree, AreUnresolved}
use Rattle.rx_meaning.specs.Fresh.{Sight, Contexts, part, render_part, rendered, one_waits}
use Rattle.rx_meaning.specs.Levels.{PartFits}
use Rattle.rx_meaning.specs.Settled.{IfHidden}
use Rattle.rx_meaning.specs.Touched.{contexts_below, may_throw_anew, sees_refresh}
use Rattle.commit_laws.specs.WaitsAgain.{without_lanes, OwnWaitsAgain, WaitsAgain, AllWaitAgain, IfWaitsAgain}
use Rattle.end_laws.specs.Trimmed.{trimmed, trimmed_in}
use Rattle.end_laws.proofs.Rendered.{waits_same, values_same}
use Rattle.render_laws.specs.OldNodes.{AllHave, OldHas}
use Rattle.rx_fiber.specs.Fibers.{Fiber}
use Rattle.rx_fiber.specs.Reading.{IsOld, IsTreeOf}
use Rattle.rx_fiber.specs.Stood.{StandsSame}
use Rattle.rx_render.specs.GivenContexts.{given_contexts}
use Rattle.rx_render.proofs.StoodNodes.{HandsDown, same_trimmed, shown_has}

pub not_hidden : (A B : Type 0) (b : Bool) → IfHidden b A B → b ≡ false → B
not_hidden A B true h e = cc
not_hidden A B false h e = h

each_waits : (s : Sight) (cs : Contexts) (ns : Forest) → AllWaitAgain s cs ns → AllHave (WaitsAgain s cs) ns
each_waits s cs none h = tt
each_waits s cs (vacant ns) h = each_waits s cs ns h
each_waits s cs (child x ns) h = (h.0, each_waits s cs ns h.1)

waits_down : (s : Sight) → HandsDown (WaitsAgain s)
waits_down s =
    record {
      children = λ cs e m ns fs h shows. each_waits s (contexts_below e cs) ns (not_hidden (Unit {0}) (AllWaitAgain s (contexts_below e cs) ns) (is_hidden m) h.1 shows);
      fallbacks = λ cs e m ns fs h. each_waits s cs fs h.2;
    }

root_waits : (s : Sight) (cs : Contexts) (tree : Option Node) → IfWaitsAgain s cs tree → OldHas (WaitsAgain s cs) tree
root_waits s cs None h = tt
root_waits s cs (Some x) h = h

module _ (c : Shape Fiber) (linked : IsLinked c) (s : Sight) (base : Contexts) (tree : Option Node) (is : IsTreeOf tree c) (again : IfWaitsAgain s base tree) where
  own_waits : (ws : List (ℕ × ℤ)) (key : Key) (f : Element) (es : Elements) (a : Awaits) (ns fs : Forest) (x : Node) → trimmed x ≡ trimmed (node (boundary key f es) (of_boundary (Hidden a)) ns fs)
      → WaitsAgain s (given_contexts base ws) x → sees_refresh s ≡ false → may_throw_anew s ≡ false → AreUnresolved s a → AllValuesAgree (without_lanes s) s ns
      → (n : ℕ) → PartFits n s.program (part (given_contexts base ws) (listed es) ns) → render_part (rendered n s) (part (given_contexts base ws) (listed es) ns) ≡ one_waits a
  own_waits ws key f es a ns fs (node e m ms gs) same waits refresh calm unresolved agree n fits =
      let el : e ≡ boundary key f es = ap element_of same in
      let mark : m ≡ of_boundary (Hidden a) = ap mark_of same in
      let ends : trimmed_in ms ≡ trimmed_in ns = ap children_of same in
      let own : OwnWaitsAgain s (given_contexts base ws) (boundary key f es) (of_boundary (Hidden a)) ms =
      subst (λ k. OwnWaitsAgain s (given_contexts base ws) (boundary key f es) k ms) mark (subst (λ k. OwnWaitsAgain s (given_contexts base ws) k m ms) el waits.0) in
      waits_same n s (given_contexts base ws) (listed es) ms ns a ends (own refresh calm unresolved (values_same (without_lanes s) s ns ms (sym ends) agree) n fits)

  -- The children of a hidden boundary wait for what it awaits, if its current fiber is shown, and these values are the same as there.
  pub waits_here : (ws : List (ℕ × ℤ)) (o : Option ℕ) (key : Key) (f : Element) (es : Elements) (a : Awaits) (ns fs : Forest) → StandsSame c ws o
      → IsOld c o (Some (node (boundary key f es) (of_boundary (Hidden a)) ns fs)) → sees_refresh s ≡ false → may_throw_anew s ≡ false → AreUnresolved s a → AllValuesAgree (without_lanes s) s ns
      → (n : ℕ) → PartFits n s.program (part (given_contexts base ws) (listed es) ns) → render_part (rendered n s) (part (given_contexts base ws) (listed es) ns) ≡ one_waits a
  waits_here ws o key f es a ns fs stood old refresh calm unresolved agree n fits =
      let x = shown_has (WaitsAgain s) (waits_down s) c linked base tree is (root_waits s base tree again) ws o stood in
      own_waits ws key f es a ns fs x.node_is (same_trimmed c o x.node_is (node (boundary key f es) (of_boundary (Hidden a)) ns fs) x.is old) x.has refresh calm unresolved agree n fits
