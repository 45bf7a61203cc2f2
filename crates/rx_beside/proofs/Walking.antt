-- Two lists of children are walked beside each other.
use Rattle.std.proofs.Common.{◌≡◌, ℕ, zero, suc, Bool, true, false, ◌||◌, List, [], ◌∷◌, ◌++◌, length, map, refl, sym, ap, ◌∙◌, subst, arith, Option, Some, None}
use Rattle.std.specs.Prelude.{slice_get, slice_set, nat_eq, option_and_then}
use Rattle.std.specs.List.{zip}
use Rattle.std.specs.Option.{option_flatten, option_map_or}
use Rattle.std.proofs.lemmas.Bool.Decides.{Decides-eqb}
use Rattle.std.proofs.lemmas.List.Folds.{list_any-append}
use Rattle.rx_elem.specs.Elements as elements
use Rattle.rx_elem.specs.Identity.{is_reused}
use Rattle.rx_elem.specs.Trees.{Node, node, Forest, vacant, child, forest, element_of, elements_in}
use Rattle.rx_elem.specs.Trees as trees
use Rattle.rx_elem.specs.Compare.{Past, node_at}
use Rattle.rx_node.proofs.Listing.{places-forest}
use Rattle.rx_pruned.specs.Pruned.{was, Pruned, whole, cut, inside, in_place, PrunedIn, no_more, gap, same, pair, left}
use Rattle.rx_beside.specs.Slots.{IsSlot, kept, changed, replaced}

-- Pasts by places

abbrev past_by : (ℕ → Option Node) → Option ℕ → Bool → Past
past_by f p m = record { old = option_and_then f p; moved = m }

abbrev pub pasts_by : (ℕ → Option Node) → List (Option ℕ) → List Bool → List Past
pasts_by f [] ms = []
pasts_by f (p ∷ ps) [] = []
pasts_by f (p ∷ ps) (m ∷ ms) = past_by f p m ∷ pasts_by f ps ms

pub pasts_are : (f : ℕ → Option Node) (ps : List (Option ℕ)) (ms : List Bool)
    → map (λ (x : Option Node × Bool). let q : Past = record { old = x.0; moved = x.1 } in q) (zip (map (option_and_then f) ps) ms) ≡ pasts_by f ps ms
pasts_are f [] ms = refl
pasts_are f (p ∷ ps) [] = refl
pasts_are f (p ∷ ps) (m ∷ ms) = ap (λ l. past_by f p m ∷ l) (pasts_are f ps ms)

pasts_longer : (f : ℕ → Option Node) (ps : List (Option ℕ)) (ms : List Bool) (p : Option ℕ) (m : Bool) → length ps ≡ length ms
    → pasts_by f (ps ++ p ∷ []) (ms ++ m ∷ []) ≡ pasts_by f ps ms ++ past_by f p m ∷ []
pasts_longer f [] [] p m e = refl
pasts_longer f [] (n ∷ ms) p m e = absurd (omega arith)
pasts_longer f (q ∷ ps) [] p m e = absurd (omega arith)
pasts_longer f (q ∷ ps) (n ∷ ms) p m e = ap (λ l. past_by f q n ∷ l) (pasts_longer f ps ms p m (omega arith))

either_false : (a b : Bool) → (a || b) ≡ false → (a ≡ false) × (b ≡ false)
either_false true b e = cc
either_false false b e = (refl, e)

past_same : (f g : ℕ → Option Node) (k : ℕ) → ((j : ℕ) → (j ≡ k → ⊥) → f j ≡ g j) → (p : Option ℕ) → option_map_or (nat_eq k) p false ≡ false
    → option_and_then f p ≡ option_and_then g p
past_same f g k h None e = refl
past_same f g k h (Some q) e = h q (λ s. let t : nat_eq k q ≡ true = (Decides-eqb k q).1 (sym s) in absurd (cc))

-- what is changed at one place changes no past of another
pasts_same : (f g : ℕ → Option Node) (k : ℕ) → ((j : ℕ) → (j ≡ k → ⊥) → f j ≡ g j) → (ps : List (Option ℕ)) (ms : List Bool) → is_reused ps k ≡ false
    → pasts_by f ps ms ≡ pasts_by g ps ms
pasts_same f g k h [] ms e = refl
pasts_same f g k h (p ∷ ps) [] e = refl
pasts_same f g k h (p ∷ ps) (m ∷ ms) e =
    let (a, b) = either_false _ _ e in
    (λ i. record { old = past_same f g k h p a i; moved = m } ∷ pasts_same f g k h ps ms b i)

-- Lists that go on

abbrev then_also : Forest → Forest → Forest
then_also trees.none ms = ms
then_also (vacant ns) ms = vacant (then_also ns ms)
then_also (child n ns) ms = child n (then_also ns ms)

forest_longer : (xs ys : List (Option Node)) → forest (xs ++ ys) ≡ then_also (forest xs) (forest ys)
forest_longer [] ys = refl
forest_longer (None ∷ xs) ys = ap vacant (forest_longer xs ys)
forest_longer (Some n ∷ xs) ys = ap (child n) (forest_longer xs ys)

both_longer : (d : Bool) (ps : List Past) (ns : Forest) (qs : List Past) (ms : Forest) (ps2 : List Past) (ns2 : Forest) (qs2 : List Past) (ms2 : Forest)
    → PrunedIn d ps ns qs ms → PrunedIn d ps2 ns2 qs2 ms2 → PrunedIn d (ps ++ ps2) (then_also ns ns2) (qs ++ qs2) (then_also ms ms2)
both_longer d _ _ _ _ ps2 ns2 qs2 ms2 no_more b = b
both_longer d _ _ _ _ ps2 ns2 qs2 ms2 (gap {ps = ps} {qs = qs} {ns = ns} {ms = ms} a) b = gap (both_longer d ps ns qs ms ps2 ns2 qs2 ms2 a b)
both_longer d _ _ _ _ ps2 ns2 qs2 ms2 (same {ps = ps} {qs = qs} {ns = ns} {ms = ms} a) b = same (both_longer d ps ns qs ms ps2 ns2 qs2 ms2 a b)
both_longer d _ _ _ _ ps2 ns2 qs2 ms2 (pair {ps = ps} {qs = qs} {ns = ns} {ms = ms} p a) b = pair p (both_longer d ps ns qs ms ps2 ns2 qs2 ms2 a b)
both_longer d _ _ _ _ ps2 ns2 qs2 ms2 (left {ps = ps} {qs = qs} {ns = ns} {ms = ms} e a) b = left e (both_longer d ps ns qs ms ps2 ns2 qs2 ms2 a b)

-- lists go on with what these are beside each other
pub all_more : (d : Bool) (ps qs : List Past) (xs ys : List (Option Node)) (ps2 qs2 : List Past) (xs2 ys2 : List (Option Node)) → PrunedIn d ps (forest xs) qs (forest ys)
    → PrunedIn d ps2 (forest xs2) qs2 (forest ys2) → PrunedIn d (ps ++ ps2) (forest (xs ++ xs2)) (qs ++ qs2) (forest (ys ++ ys2))
all_more d ps qs xs ys ps2 qs2 xs2 ys2 a b =
    subst (λ ns. PrunedIn d (ps ++ ps2) ns (qs ++ qs2) (forest (ys ++ ys2))) (sym (forest_longer xs xs2))
    (subst (λ ms. PrunedIn d (ps ++ ps2) (then_also (forest xs) (forest xs2)) (qs ++ qs2) ms) (sym (forest_longer ys ys2))
    (both_longer d ps (forest xs) qs (forest ys) ps2 (forest xs2) qs2 (forest ys2) a b))

more : (d : Bool) (ps qs : List Past) (xs ys : List (Option Node)) (p q : Past) (x y : Option Node) → PrunedIn d ps (forest xs) qs (forest ys)
    → PrunedIn d (p ∷ []) (forest (x ∷ [])) (q ∷ []) (forest (y ∷ []))
    → PrunedIn d (ps ++ p ∷ []) (forest (xs ++ x ∷ [])) (qs ++ q ∷ []) (forest (ys ++ y ∷ []))
more d ps qs xs ys p q x y a b = all_more d ps qs xs ys (p ∷ []) (q ∷ []) (x ∷ []) (y ∷ []) a b

stays : (d : Bool) (p q : Past) (x : Option Node) → p ≡ q → PrunedIn d (p ∷ []) (forest (x ∷ [])) (q ∷ []) (forest (x ∷ []))
stays d p q None e = subst (λ q. PrunedIn d (p ∷ []) (vacant trees.none) (q ∷ []) (vacant trees.none)) e (gap no_more)
stays d p q (Some n) e = subst (λ q. PrunedIn d (p ∷ []) (child n trees.none) (q ∷ []) (child n trees.none)) e (same no_more)

-- One node of a list is replaced

node_at-list : (ns : List (Option Node)) (place : ℕ) → node_at (forest ns) place ≡ option_flatten (slice_get ns place)
node_at-list ns place = ap (λ xs. option_flatten (slice_get xs place)) (sym (places-forest ns))

set_same : (xs : List (Option Node)) (k : ℕ) (o : Node) (y : Option Node) → option_flatten (slice_get xs k) ≡ Some o → option_flatten (slice_get (slice_set xs k y) k) ≡ y
set_same [] k o y e = cc
set_same (x ∷ xs) zero o y e = refl
set_same (x ∷ xs) (suc k) o y e = set_same xs k o y e

set_other : (xs : List (Option Node)) (k j : ℕ) (y : Option Node) → (j ≡ k → ⊥) → slice_get (slice_set xs k y) j ≡ slice_get xs j
set_other [] k j y n = refl
set_other (x ∷ xs) zero zero y n = absurd (n refl)
set_other (x ∷ xs) zero (suc j) y n = refl
set_other (x ∷ xs) (suc k) zero y n = refl
set_other (x ∷ xs) (suc k) (suc j) y n = set_other xs k j y (λ e. n (ap suc e))

set_elements : (xs : List (Option Node)) (k : ℕ) (o p : Node) → option_flatten (slice_get xs k) ≡ Some o → element_of p ≡ element_of o
    → elements_in (forest (slice_set xs k (Some p))) ≡ elements_in (forest xs)
set_elements [] k o p e f = refl
set_elements (None ∷ xs) zero o p e f = cc
set_elements (Some n ∷ xs) zero o p e f = let q : n ≡ o = cc in ap (λ x. x ∷ elements_in (forest xs)) (f ∙ ap element_of (sym q))
set_elements (None ∷ xs) (suc k) o p e f = ap (λ l. elements.null ∷ l) (set_elements xs k o p e f)
set_elements (Some n ∷ xs) (suc k) o p e f = ap (λ l. element_of n ∷ l) (set_elements xs k o p e f)

pub same_element : (d : Bool) (o n p q : Node) → Pruned d o n p q → element_of p ≡ element_of o
same_element d o n _ _ whole = refl
same_element d _ _ _ _ (cut g e) = refl
same_element d _ _ _ _ (inside g k h) = refl
same_element d _ _ _ _ (in_place g h) = refl

-- the same of the new node
pub same_new_element : (d : Bool) (o n p q : Node) → Pruned d o n p q → element_of q ≡ element_of n
same_new_element d o n _ _ whole = refl
same_new_element d _ _ _ _ (cut g e) = refl
same_new_element d _ _ _ _ (inside g k h) = refl
same_new_element d _ _ _ _ (in_place g h) = refl

-- The walk

-- the new list so far, and the old one, beside both without what stayed the same, by the places at which the children were
pub record Walked (d : Bool) (os : List (Option Node)) (places : List (Option ℕ)) (moved : List Bool) (ts ps qs : List (Option Node)) : Type 0 where
  pub elements : elements_in (forest ps) ≡ elements_in (forest os)
  pub gone : (k : ℕ) → is_reused places k ≡ false → node_at (forest ps) k ≡ node_at (forest os) k
  pub pruned : PrunedIn d (pasts_by (node_at (forest os)) places moved) (forest ts) (pasts_by (node_at (forest ps)) places moved) (forest qs)

none_walked : (d : Bool) (os : List (Option Node)) → Walked d os [] [] [] os []
none_walked d os = record { elements = refl; gone = λ k e. refl; pruned = no_more }

pub none_walked_yet : (d : Bool) (os ts ps qs : List (Option Node)) → ts ≡ [] → ps ≡ os → qs ≡ [] → Walked d os [] [] ts ps qs
none_walked_yet d os ts ps qs t p q = rw (t, p, q) (none_walked d os)

reused_less : (places : List (Option ℕ)) (p : Option ℕ) (k : ℕ) → is_reused (places ++ p ∷ []) k ≡ false → (is_reused places k ≡ false) × (option_map_or (nat_eq k) p false ≡ false)
reused_less places p k e =
    let (a, b) = either_false _ _ (sym (list_any-append (λ q. option_map_or (nat_eq k) q false) places (p ∷ [])) ∙ e) in
    let (c, d) = either_false _ _ b in (a, c)

module _ (d : Bool) (os : List (Option Node)) (places : List (Option ℕ)) (moved : List Bool) (ts ps qs : List (Option Node)) (w : Walked d os places moved ts ps qs)
    (even : length places ≡ length moved) (m : Bool) where
  stays_more : (p : Option ℕ) (x : Option Node) → ((k : ℕ) → p ≡ Some k → is_reused places k ≡ false) → Walked d os (places ++ p ∷ []) (moved ++ m ∷ []) (ts ++ x ∷ []) ps (qs ++ x ∷ [])
  stays_more p x apart = record {
    elements = w.elements;
    gone = λ k e. w.gone k (reused_less places p k e).0;
    pruned =
        subst (λ l. PrunedIn d l (forest (ts ++ x ∷ [])) (pasts_by (node_at (forest ps)) (places ++ p ∷ []) (moved ++ m ∷ [])) (forest (qs ++ x ∷ [])))
        (sym (pasts_longer (node_at (forest os)) places moved p m even))
        (subst (λ l. PrunedIn d (pasts_by (node_at (forest os)) places moved ++ past_by (node_at (forest os)) p m ∷ []) (forest (ts ++ x ∷ [])) l (forest (qs ++ x ∷ [])))
        (sym (pasts_longer (node_at (forest ps)) places moved p m even))
        (more d _ _ ts qs _ _ x x w.pruned (stays d _ _ x (one_past p apart))));
  }
    where
      one_past : (p : Option ℕ) → ((k : ℕ) → p ≡ Some k → is_reused places k ≡ false) → past_by (node_at (forest os)) p m ≡ past_by (node_at (forest ps)) p m
      one_past None apart = refl
      one_past (Some k) apart = ap (λ o. was_then o) (sym (w.gone k (apart k refl)))
        where
          was_then : Option Node → Past
          was_then o = record { old = o; moved = m }

  changes_more : (k : ℕ) (o n p q : Node) → is_reused places k ≡ false → node_at (forest os) k ≡ Some o → Pruned (d || m) o n p q
      → Walked d os (places ++ Some k ∷ []) (moved ++ m ∷ []) (ts ++ Some n ∷ []) (slice_set ps k (Some p)) (qs ++ Some q ∷ [])
  changes_more k o n p q apart was_it is =
      let before : option_flatten (slice_get ps k) ≡ Some o = sym (node_at-list ps k) ∙ w.gone k apart ∙ was_it in
      let now = slice_set ps k (Some p) in
      let here : node_at (forest now) k ≡ Some p = node_at-list now k ∙ set_same ps k o (Some p) before in
      let others : (j : ℕ) → (j ≡ k → ⊥) → node_at (forest now) j ≡ node_at (forest ps) j =
      λ j n. node_at-list now j ∙ ap option_flatten (set_other ps k j (Some p) n) ∙ sym (node_at-list ps j) in
      let one : PrunedIn d (was o m ∷ []) (child n trees.none) (was p m ∷ []) (child q trees.none) = pair is no_more in
      record {
        elements = set_elements ps k o p before (same_element (d || m) o n p q is) ∙ w.elements;
        gone = λ j e.
            let (a, b) = reused_less places (Some k) j e in
            others j (λ s. let t : nat_eq j k ≡ true = (Decides-eqb j k).1 s in absurd (let z : true ≡ false = sym t ∙ b in cc)) ∙ w.gone j a;
        pruned =
            subst (λ l. PrunedIn d l (forest (ts ++ Some n ∷ [])) (pasts_by (node_at (forest now)) (places ++ Some k ∷ []) (moved ++ m ∷ [])) (forest (qs ++ Some q ∷ [])))
            (sym (pasts_longer (node_at (forest os)) places moved (Some k) m even))
            (subst (λ l. PrunedIn d (pasts_by (node_at (forest os)) places moved ++ past_by (node_at (forest os)) (Some k) m ∷ []) (forest (ts ++ Some n ∷ [])) l (forest (qs ++ Some q ∷ [])))
            (sym (pasts_longer (node_at (forest now)) places moved (Some k) m even))
            (more d _ _ ts qs _ _ (Some n) (Some q)
            (subst (λ l. PrunedIn d (pasts_by (node_at (forest os)) places moved) (forest ts) l (forest qs)) (sym (pasts_same (node_at (forest now)) (node_at (forest ps)) k others places moved apart)) w.pruned)
            (subst (λ a. PrunedIn d (past_with a ∷ []) (child n trees.none) (past_by (node_at (forest now)) (Some k) m ∷ []) (child q trees.none)) (sym was_it)
            (subst (λ b. PrunedIn d (was o m ∷ []) (child n trees.none) (past_with b ∷ []) (child q trees.none)) (sym here) one))));
      }
    where
      past_with : Option Node → Past
      past_with o = record { old = o; moved = m }

  -- one place more
  pub walked_more : (p : Option ℕ) (o x r y : Option Node) → ((k : ℕ) → p ≡ Some k → is_reused places k ≡ false) → option_and_then (node_at (forest os)) p ≡ o → IsSlot (d || m) o x r y
      → Walked d os (places ++ p ∷ []) (moved ++ m ∷ []) (ts ++ x ∷ []) (replaced r p ps) (qs ++ y ∷ [])
  walked_more p _ x _ _ apart e kept = stays_more p x apart
  walked_more None _ _ _ _ apart e (changed is) = cc
  walked_more (Some k) _ _ _ _ apart e (changed {o = o} {n = n} {p = p} {q = q} is) = changes_more k o n p q (apart k refl) e is
