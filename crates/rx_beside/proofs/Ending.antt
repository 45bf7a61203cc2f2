-- What two matched lists are beside each other once they are walked, and what the nodes over two lists are then.
use Rattle.std.proofs.Common.{◌≡◌, ℕ, zero, suc, ◌+◌, ◌<◌, ◌≤◌, Bool, true, false, ◌||◌, if◌then◌else◌, List, [], ◌∷◌, ◌++◌, length, get_or, take, map, refl, sym, ap, ◌∙◌, subst, arith, Option, Some, None}
use Rattle.std.specs.Prelude.{slice_get, nat_eq, position, option_and_then}
use Rattle.std.specs.List.{zip}
use Rattle.std.specs.Option.{option_flatten, option_map_or}
use Rattle.std.proofs.lemmas.Bool.Decides.{Decides-eqb}
use Rattle.std.proofs.lemmas.List.{length-map, length-take-le, map-append, take_all, take_more}
use Rattle.std.proofs.lemmas.Option.{slice_get-get_or}
use Rattle.rx_elem.specs.Elements.{Element}
use Rattle.rx_elem.specs.Identity.{identities, identified, is_same_child, is_reused, old_places, moves, moves_after}
use Rattle.rx_elem.specs.Trees.{Mark, Node, node, Forest, forest, elements_in, is_host, is_hidden}
use Rattle.rx_elem.specs.Trees as trees
use Rattle.rx_elem.specs.Compare.{pasts, node_at}
use Rattle.rx_node.proofs.Listing.{places-forest}
use Rattle.rx_links.specs.Drafts.{Trees}
use Rattle.rx_fiber.specs.Fibers.{Fiber}
use Rattle.rx_keys.proofs.Distinct.{identified_length, places_apart}
use Rattle.rx_read.specs.Lists.{list_of}
use Rattle.rx_read.specs.Places.{first_node}
use Rattle.rx_pruned.specs.Pruned.{GoesOn, displaced_below, Pruned, whole, cut, inside, PrunedIn}
use Rattle.rx_pruned.specs.Pruned as pruned
use Rattle.rx_compare.specs.Matched.{IsMatched}
use Rattle.rx_keys.specs.declared.matching.Matching.{Matching}
use Rattle.rx_beside.specs.Slots.{IsSlot, changed, fiber_in, replaced, with_gone, AreLists, left_out, without_some, in_place}
use Rattle.rx_beside.proofs.Gone.{replaced_there}
use Rattle.rx_beside.proofs.Walking.{pasts_by, pasts_are, Walked, walked_more}

-- Where new children were

-- each new child has a place or none, and moved or not
pub places_length : (old new : List Element) → length (old_places old new) ≡ length new
places_length old new =
    length-map (identified new) (λ c. position (is_same_child c) (identified old))
    ∙ (length-map (zip (identities new) new) (λ c. record { identity = c.0; element = c.1 }) ∙ identified_length [] new)

moves_after_length : (earlier : List ℕ) (ps : List (Option ℕ)) → length (moves_after earlier ps) ≡ length ps
moves_after_length earlier [] = refl
moves_after_length earlier (None ∷ ps) = ap suc (moves_after_length earlier ps)
moves_after_length earlier (Some p ∷ ps) = ap suc (moves_after_length (p ∷ earlier) ps)

pub moves_length : (ps : List (Option ℕ)) → length (moves ps) ≡ length ps
moves_length ps = moves_after_length [] ps

not_here : (k : ℕ) (p : Option ℕ) → (p ≡ Some k → ⊥) → option_map_or (nat_eq k) p false ≡ false
not_here k None n = refl
not_here k (Some q) n = by_test (nat_eq k q) refl
  where
    by_test : (b : Bool) → nat_eq k q ≡ b → b ≡ false
    by_test true e = absurd (n (ap Some (sym ((Decides-eqb k q).0 e))))
    by_test false e = refl

never_before : (ps : List (Option ℕ)) (i k : ℕ) → ((j : ℕ) → j < i → slice_get ps j ≡ Some (Some k) → ⊥) → is_reused (take i ps) k ≡ false
never_before [] zero k n = refl
never_before [] (suc i) k n = refl
never_before (p ∷ ps) zero k n = refl
never_before (p ∷ ps) (suc i) k n =
    let here = not_here k p (λ e. n 0 (omega arith) (ap Some e)) in
    let later = never_before ps i k (λ j l. n (suc j) (omega arith)) in
    rw (here, later) refl

-- the place at which a new child was is that of no earlier one
pub apart_before : (old new : List Element) (ps : List (Option ℕ)) (i : ℕ) (p : Option ℕ) → ps ≡ old_places old new → i < length ps → p ≡ get_or ps i p
    → (k : ℕ) → p ≡ Some k → is_reused (take i ps) k ≡ false
apart_before old new ps i p e l at k is =
    let here : slice_get ps i ≡ Some (Some k) = slice_get-get_or ps i p l ∙ ap Some (sym at ∙ is) in
    never_before ps i k (λ j less there.
    let same : j ≡ i = places_apart old new j i k (subst (λ q. slice_get q j ≡ Some (Some k)) e there) (subst (λ q. slice_get q i ≡ Some (Some k)) e here) in
    absurd (omega arith))

-- The lists

past_lists : (ps : List (Option Node)) (es fs : List Element) (places : List (Option ℕ)) (moved : List Bool) → elements_in (forest ps) ≡ fs → places ≡ old_places fs es → moved ≡ moves places
    → pasts_by (node_at (forest ps)) places moved ≡ pasts (forest ps) es
past_lists ps es fs places moved e p m =
    let q : places ≡ old_places (elements_in (forest ps)) es = p ∙ ap (λ f. old_places f es) (sym e) in
    let n : moved ≡ moves (old_places (elements_in (forest ps)) es) = m ∙ ap moves q in
    (λ i. pasts_by (node_at (forest ps)) (q i) (n i))
    ∙ sym (pasts_are (node_at (forest ps)) (old_places (elements_in (forest ps)) es) (moves (old_places (elements_in (forest ps)) es)))

-- Two lists that are walked to their ends are beside each other without what stayed the same.
pub all_walked : (d : Bool) (os ts ps qs : List (Option Node)) (es : List Element) (places : List (Option ℕ)) (moved : List Bool) → Walked d os places moved ts ps qs
    → elements_in (forest ts) ≡ es → places ≡ old_places (elements_in (forest os)) es → moved ≡ moves places
    → AreLists d (forest os) (forest ts) (forest ps) (forest qs)
all_walked d os ts ps qs es places moved w te p m =
    let q : places ≡ old_places (elements_in (forest os)) (elements_in (forest ts)) = p ∙ ap (old_places (elements_in (forest os))) (sym te) in
    without_some
    (record { elements = w.elements; gone = λ k e. w.gone k (ap (λ l. is_reused l k) q ∙ e) })
    (subst (λ l. PrunedIn d l (forest ts) (pasts (forest ps) (elements_in (forest ts))) (forest qs)) (past_lists os (elements_in (forest ts)) (elements_in (forest os)) places moved refl q m)
    (subst (λ l. PrunedIn d (pasts_by (node_at (forest os)) places moved) (forest ts) l (forest qs)) (past_lists ps (elements_in (forest ts)) (elements_in (forest os)) places moved w.elements q m) w.pruned))

-- How many places there are

elements_length : (xs : List (Option Node)) → length (elements_in (forest xs)) ≡ length xs
elements_length [] = refl
elements_length (None ∷ xs) = ap suc (elements_length xs)
elements_length (Some n ∷ xs) = ap suc (elements_length xs)

module _ (os : Forest) (f : Option ℕ → Option Node) (fs : List (Option ℕ)) (m : Matching) (h : IsMatched os (elements_in (forest (map f fs))) m) where
  pub places_even : length m.places.items ≡ length fs
  places_even =
      ap length h.places ∙ places_length (elements_in os) (elements_in (forest (map f fs))) ∙ elements_length (map f fs) ∙ length-map fs f

  pub moved_even : length m.moved.items ≡ length fs
  moved_even = ap length h.moved ∙ moves_length (old_places (elements_in os) (elements_in (forest (map f fs)))) ∙ sym (ap length h.places) ∙ places_even

-- The old child at a place

node_at-list : (ns : List (Option Node)) (place : ℕ) → node_at (forest ns) place ≡ option_flatten (slice_get ns place)
node_at-list ns place = ap (λ xs. option_flatten (slice_get xs place)) (sym (places-forest ns))

pub old_at : (t : Trees Fiber) (fs : List (Option ℕ)) (p : Option ℕ) → option_and_then (node_at (forest (map (λ o. first_node (list_of t o)) fs))) p ≡ first_node (list_of t (fiber_in fs p))
old_at t fs None = refl
old_at t fs (Some k) = node_at-list (map (λ o. first_node (list_of t o)) fs) k ∙ at fs k
  where
    at : (fs : List (Option ℕ)) (k : ℕ) → option_flatten (slice_get (map (λ o. first_node (list_of t o)) fs) k) ≡ first_node (list_of t (option_flatten (slice_get fs k)))
    at [] k = refl
    at (f ∷ fs) zero = refl
    at (f ∷ fs) (suc k) = at fs k

-- One place more of a made list

module _ (d : Bool) (os : List (Option Node)) (f : Option ℕ → Option Node) (fs : List (Option ℕ)) (m : Matching) (h : IsMatched (forest os) (elements_in (forest (map f fs))) m) where
  pub step : (i : ℕ) → i < length fs → (o p : Option ℕ) (b : Bool) → o ≡ get_or fs i o → p ≡ get_or m.places.items i p → b ≡ get_or m.moved.items i b
      → (kept qs kept2 qs2 : List (Option Node)) (r y : Option Node) → length kept ≡ length os
      → Walked d os (take i m.places.items) (take i m.moved.items) (map f (take i fs)) (with_gone kept os) qs
      → IsSlot (d || b) (option_and_then (node_at (forest os)) p) (f o) r y → kept2 ≡ replaced r p kept → qs2 ≡ qs ++ y ∷ []
      → Walked d os (take (i + 1) m.places.items) (take (i + 1) m.moved.items) (map f (take (i + 1) fs)) (with_gone kept2 os) qs2
  step i l o p b at_o at_p at_b kept qs kept2 qs2 r y even w slot ep eq =
      let lp : i < length m.places.items = omega (arith, places_even (forest os) f fs m h) in
      let lm : i < length m.moved.items = omega (arith, moved_even (forest os) f fs m h) in
      let fs_is : map f (take (i + 1) fs) ≡ map f (take i fs) ++ f o ∷ [] =
      ap (map f) (take_more fs i o l ∙ ap (λ z. take i fs ++ z ∷ []) (sym at_o)) ∙ map-append f (take i fs) (o ∷ []) in
      let places_is : take (i + 1) m.places.items ≡ take i m.places.items ++ p ∷ [] =
      take_more m.places.items i p lp ∙ ap (λ z. take i m.places.items ++ z ∷ []) (sym at_p) in
      let moved_is : take (i + 1) m.moved.items ≡ take i m.moved.items ++ b ∷ [] =
      take_more m.moved.items i b lm ∙ ap (λ z. take i m.moved.items ++ z ∷ []) (sym at_b) in
      let same : length (take i m.places.items) ≡ length (take i m.moved.items) =
      length-take-le i m.places.items (omega arith) ∙ sym (length-take-le i m.moved.items (omega arith)) in
      let apart = apart_before (elements_in (forest os)) (elements_in (forest (map f fs))) m.places.items i p h.places lp at_p in
      let now = walked_more d os (take i m.places.items) (take i m.moved.items) (map f (take i fs)) (with_gone kept os) qs w same b p _ (f o) r y apart refl slot in
      rw (fs_is, places_is, moved_is, ap (λ l. with_gone l os) ep ∙ replaced_there r p kept os even, eq) now

  -- All of them are walked.
  pub done : (i : ℕ) → length fs ≤ i → (ps qs : List (Option Node)) → Walked d os (take i m.places.items) (take i m.moved.items) (map f (take i fs)) ps qs
      → AreLists d (forest os) (forest (map f fs)) (forest ps) (forest qs)
  done i l ps qs w =
      let t : take i fs ≡ fs = take_all i fs l in
      let p : take i m.places.items ≡ m.places.items = take_all i m.places.items (omega (arith, places_even (forest os) f fs m h)) in
      let q : take i m.moved.items ≡ m.moved.items = take_all i m.moved.items (omega (arith, moved_even (forest os) f fs m h)) in
      all_walked d os (map f fs) ps qs (elements_in (forest (map f fs))) m.places.items m.moved.items
      (subst (λ a. Walked d os a m.moved.items (map f fs) ps qs) p
      (subst (λ b. Walked d os (take i m.places.items) b (map f fs) ps qs) q
      (subst (λ x. Walked d os (take i m.places.items) (take i m.moved.items) (map f x) ps qs) t w)))
      refl h.places (h.moved ∙ sym (ap moves h.places))

-- both lists are left out
pub out_by : (d : Bool) (os ns ps qs : Forest) → d ≡ false → ns ≡ os → ps ≡ trees.none → qs ≡ trees.none → AreLists d os ns ps qs
out_by d os ns ps qs e f g h = rw (f, g, h) (left_out e)

-- The nodes over two lists

pub lists_pruned : (d : Bool) (e f : Element) (m w : Mark) (os ns ps qs : Forest) → GoesOn m w → AreLists (displaced_below d w) os ns ps qs
    → Pruned d (node e m os trees.none) (node f w ns trees.none) (node e m ps trees.none) (node f w qs trees.none)
lists_pruned d e f m w os _ _ _ g (left_out n) = cut g n
lists_pruned d e f m w os ns ps qs g (without_some k h) = inside g k h
lists_pruned d e f m w os ns ps qs g (in_place h) = pruned.in_place g h

pub whole_by : (d : Bool) (x y p q : Node) (o n : Option Node) → Some p ≡ o → Some q ≡ n → o ≡ Some x → n ≡ Some y → Pruned d x y p q
whole_by d x y p q o n e f g h =
    let a : Some p ≡ Some x = e ∙ g in
    let b : Some q ≡ Some y = f ∙ h in
    let k : p ≡ x = cc in
    let l : q ≡ y = cc in
    rw (k, l) whole

not_displaced : (m : Mark) → displaced_below false m ≡ false
not_displaced m = by_test (is_host m)
  where
    by_test : (b : Bool) → (if b then false else false) ≡ false
    by_test true = refl
    by_test false = refl

-- one node, that shows its children, without these
pub bare_by : (o n p q : Node) (e : Element) (m : Mark) (ns : Forest) → is_hidden m ≡ false → Some n ≡ Some (node e m ns trees.none) → Some n ≡ Some o
    → p ≡ node e m trees.none trees.none → q ≡ node e m trees.none trees.none → Pruned false o n p q
bare_by o n p q e m ns shown is same ep eq =
    let a : n ≡ node e m ns trees.none = cc in
    let b : o ≡ node e m ns trees.none = cc in
    rw (a, b, ep, eq) (cut (record { old_shown = shown; new_shown = shown; hosts = refl; numbers = refl }) (not_displaced m))

-- what stands at a place
pub slot_by : (d : Bool) (x y : Option Node) (o n p q : Node) → x ≡ Some o → y ≡ Some n → Pruned d o n p q → IsSlot d x y (Some p) (Some q)
slot_by d x y o n p q e f h = rw (e, f) (changed h)

pub nodes_pruned : (d : Bool) (x y p q : Node) (e f : Element) (m w : Mark) (os ns ps qs : Forest) → GoesOn m w → AreLists (displaced_below d w) os ns ps qs
    → Some (node e m os trees.none) ≡ Some x → Some (node f w ns trees.none) ≡ Some y → p ≡ node e m ps trees.none → q ≡ node f w qs trees.none → Pruned d x y p q
nodes_pruned d x y p q e f m w os ns ps qs g h ex ey ep eq =
    let a : x ≡ node e m os trees.none = cc in
    let b : y ≡ node f w ns trees.none = cc in
    rw (a, b, ep, eq) (lists_pruned d e f m w os ns ps qs g h)
