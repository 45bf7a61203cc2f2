-- The old fibers of new children are those of the old list, each for one child.
use Rattle.std.specs.Prelude.{◌≡◌, ℕ, List, [], length, position, slice_get, Option, Some, None, IfSome, option_and_then}
use Rattle.std.specs.List.{zip}
use Rattle.std.proofs.Common.{refl, sym, ap, ◌∙◌, subst}
use Rattle.std.proofs.lemmas.List.{length-map}
use Rattle.rx_elem.specs.Elements.{Element}
use Rattle.rx_elem.specs.Identity.{identities, identified, is_same_child, old_places}
use Rattle.rx_keys.proofs.Distinct.{identified_length, map_at, places_apart}
use Rattle.rx_lists.specs.Shapes.{Shape, Holds, IsTop, IsTree}
use Rattle.rx_links.specs.Drafts.{Trees}
use Rattle.rx_links.specs.Readers.{list_from, IsLinked}
use Rattle.rx_fiber.specs.Fibers.{Fiber}
use Rattle.rx_fiber.specs.OldLists.{old_elements, fiber_at, matched}
use Rattle.rx_fiber.proofs.OldTops.{fiber_top, fiber_once}
use Rattle.rx_children.specs.Children.{AreApart, HasRoomFor}
use Rattle.rx_children.specs.Nodes.{IsBareBeside}

-- each new child has an old fiber or none
pub matched_length : (s : Shape Fiber) (es : List Element) → length (matched s es) ≡ length es
matched_length s es =
    length-map (old_places (old_elements s) es) (option_and_then (fiber_at s))
    ∙ (length-map (identified es) (λ c. position (is_same_child c) (identified (old_elements s)))
    ∙ (length-map (zip (identities es) es) (λ c. record { identity = c.0; element = c.1 }) ∙ identified_length [] es))

found : (s : Shape Fiber) (o : Option ℕ) (j : ℕ) → option_and_then (fiber_at s) o ≡ Some j → (p : ℕ) × (o ≡ Some p) × (fiber_at s p ≡ Some j)
found s None j e = cc
found s (Some p) j e = (p, refl, e)

pub matched_at : (s : Shape Fiber) (es : List Element) (i j : ℕ) → slice_get (matched s es) i ≡ Some (Some j)
    → (p : ℕ) × (slice_get (old_places (old_elements s) es) i ≡ Some (Some p)) × (fiber_at s p ≡ Some j)
matched_at s es i j h =
    let (o, at, is) = map_at (option_and_then (fiber_at s)) (old_places (old_elements s) es) i (Some j) h in
    let (p, same, there) = found s o j is in
    (p, at ∙ ap Some same, there)

-- it is one of the old list
pub matched_top : (s : Shape Fiber) (es : List Element) (i j : ℕ) → slice_get (matched s es) i ≡ Some (Some j) → IsTop s j
matched_top s es i j h = let (p, at, there) = matched_at s es i j h in fiber_top s p j there

-- and of no other child
pub matched_apart : (s : Shape Fiber) (es : List Element) → IsTree s → AreApart (matched s es)
matched_apart s es tree i k j h l =
    let (p, at, there) = matched_at s es i j h in
    let (q, too, here) = matched_at s es k j l in
    let same : q ≡ p = fiber_once s q p j tree here there in
    places_apart (old_elements s) es i k p at (too ∙ ap (λ x. Some (Some x)) same)

pub list_tree : (c : Shape Fiber) → IsLinked c → (o : Option ℕ) → IfSome o (Holds c) → IsTree (list_from c o)
list_tree c linked None h = tt
list_tree c linked (Some i) h = linked.once i h

-- so there is room for them
pub room_for : (t : Trees Fiber) (p : ℕ) (first : Option ℕ) (es : List Element) (os : List (Option ℕ)) → IsBareBeside t p first → IfSome first (Holds t.current) → IsLinked t.current
    → os ≡ matched (list_from t.current first) es → HasRoomFor t p os
room_for t p first es os beside held linked is =
    subst (λ l. HasRoomFor t p l) (sym is)
    (record {
      around = beside.around;
      value = beside.value;
      old = beside.old;
      rest = beside.rest;
      here = beside.here;
      tops = λ i j h. beside.tops j (matched_top (list_from t.current first) es i j h);
      apart = matched_apart (list_from t.current first) es (list_tree t.current linked first held);
    })
