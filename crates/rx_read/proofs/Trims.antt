-- The places that are read from fibers are those of the tree that they stand for, but for the vacant ones at the ends of lists.
use Rattle.std.proofs.Common.{◌≡◌, ℕ, zero, suc, ◌+◌, ◌-◌, ◌≤◌, true, false, List, [], ◌∷◌, ◌++◌, length, refl, sym, ap, ◌∙◌, arith, Option, Some, None}
use Rattle.rx_elem.specs.Elements.{Element}
use Rattle.rx_elem.specs.Trees.{Node, node, Forest, vacant, child, forest, is_hidden}
use Rattle.rx_elem.specs.Trees as trees
use Rattle.rx_lists.specs.Shapes.{Shape, none, fiber}
use Rattle.rx_fiber.specs.Fibers.{Fiber, begun}
use Rattle.rx_fiber.specs.OldLists.{is_fallback, filled}
use Rattle.rx_fiber.specs.Reading.{has_node, IsOf, AreFor, no_more, gap, next, IsFor, whole, alone, beside, IsTreeOf}
use Rattle.end_laws.specs.Trimmed.{vacant_before, trimmed, trimmed_in, trimmed_if}
use Rattle.rx_read.specs.Places.{mark_in, node_from, places_in, fallback_behind}

-- a list begins with the fiber of a node, at this place or later
abbrev BeginsFrom : ℕ → Shape Fiber → Type 0
BeginsFrom n none = Unit {0}
BeginsFrom n (fiber id v ks rs) = (n ≤ v.place) × (m : trees.Mark) × (v.stage ≡ begun m)

earlier : (n : ℕ) (s : Shape Fiber) → BeginsFrom (suc n) s → BeginsFrom n s
earlier n none h = tt
earlier n (fiber id v ks rs) h = (let l : suc n ≤ v.place = h.0 in omega arith, h.1, h.2)

of_begins : (n : ℕ) (e : Element) (m : trees.Mark) (id : ℕ) (v : Fiber) (ks rs : Shape Fiber) → IsOf v n e m → BeginsFrom n (fiber id v ks rs)
of_begins n e m id v ks rs is = let p : v.place ≡ n = is.at in (omega arith, m, is.stage)

node_begins : (n : ℕ) (x : Node) (s rest : Shape Fiber) → IsFor n x s rest → BeginsFrom n s
node_begins n _ _ rest (whole {id = id} {v = v} {e = e} {m = m} {ks = ks} is shown a) = of_begins n e m id v ks rest is
node_begins n _ _ rest (alone {id = id} {v = v} {e = e} {m = m} {ks = ks} is hidden gone a) = of_begins n e m id v ks rest is
node_begins n _ _ rest (beside {id = id} {jd = jd} {v = v} {w = w} {e = e} {m = m} {ks = ks} {ws = ws} is hidden some a s b) =
    of_begins n e m id v ks (fiber jd w ws rest) is

list_begins : (n : ℕ) (ns : Forest) (s : Shape Fiber) → AreFor n ns s → BeginsFrom n s
list_begins n _ _ no_more = tt
list_begins n (vacant ns) s (gap a) = earlier n s (list_begins (suc n) ns s a)
list_begins n (child x ns) s (next {rest = rest} is a) = node_begins n x s rest is

not_behind : (n : ℕ) (s : Shape Fiber) → BeginsFrom n s → fallback_behind s ≡ None
not_behind n none h = refl
not_behind n (fiber id v ks rs) h = let f : is_fallback v.stage ≡ false = ap is_fallback h.2 in rw f refl

-- the places of a list that begins later, with one vacant before
filled_before : (n : ℕ) (x : Node) (xs : List (Option Node)) → vacant_before (forest (filled n None ++ Some x ∷ xs)) ≡ vacant (forest (filled n None ++ Some x ∷ xs))
filled_before zero x xs = refl
filled_before (suc n) x xs = refl

filled_then : (n : ℕ) (x : Node) (xs : List (Option Node)) → (filled n None ++ Some x ∷ []) ++ xs ≡ filled n None ++ Some x ∷ xs
filled_then zero x xs = refl
filled_then (suc n) x xs = ap (λ l. None ∷ l) (filled_then n x xs)

module _ (rs : Shape Fiber) where
  later : (n k : ℕ) (x : Node)
      → (let own = None ∷ (filled k None ++ Some x ∷ []) in own ++ places_in (n + length own) rs)
      ≡ None ∷ (let own = filled k None ++ Some x ∷ [] in own ++ places_in (suc n + length own) rs)
  later n k x =
      let e : n + suc (length (filled k None ++ Some x ∷ [])) ≡ suc n + length (filled k None ++ Some x ∷ []) = omega arith in
      ap (λ p. None ∷ ((filled k None ++ Some x ∷ []) ++ places_in p rs)) e

gap_before : (n : ℕ) (s : Shape Fiber) → BeginsFrom (suc n) s → forest (places_in n s) ≡ vacant_before (forest (places_in (suc n) s))
gap_before n none h = refl
gap_before n (fiber id v ks rs) h =
    let m = h.1 in
    let k : mark_in v.stage ≡ Some m = ap mark_in h.2 in
    let within : suc n ≤ v.place = h.0 in
    let d : v.place - n ≡ suc (v.place - suc n) = omega arith in
    let x = node_from v m (forest (places_in 0 ks)) (fallback_behind rs) in
    let own = filled (v.place - suc n) None ++ Some x ∷ [] in
    rw (k, d)
    (ap forest (later rs n (v.place - suc n) x)
    ∙ (ap (λ l. vacant (forest l)) (filled_then (v.place - suc n) x (places_in (suc n + length own) rs))
    ∙ (sym (filled_before (v.place - suc n) x (places_in (suc n + length own) rs))
    ∙ ap (λ l. vacant_before (forest l)) (sym (filled_then (v.place - suc n) x (places_in (suc n + length own) rs))))))

-- a fiber at this place tells its node here
here : (n id : ℕ) (v : Fiber) (m : trees.Mark) (ks rs : Shape Fiber) → v.place ≡ n → v.stage ≡ begun m
    → places_in n (fiber id v ks rs) ≡ Some (node_from v m (forest (places_in 0 ks)) (fallback_behind rs)) ∷ places_in (suc n) rs
here n id v m ks rs p e =
    let k : mark_in v.stage ≡ Some m = ap mark_in e in
    let d : v.place - n ≡ 0 = omega arith in
    let q : n + 1 ≡ suc n = omega arith in
    rw (k, d, q) refl

past : (n id : ℕ) (v : Fiber) (ks rs : Shape Fiber) → mark_in v.stage ≡ None → places_in n (fiber id v ks rs) ≡ places_in n rs
past n id v ks rs e = let q : n + 0 ≡ n = omega arith in rw (e, q) refl

no_nodes : (ns : Forest) → has_node ns ≡ false → trimmed_in ns ≡ trees.none
no_nodes trees.none e = refl
no_nodes (vacant ns) e = ap vacant_before (no_nodes ns e)
no_nodes (child x ns) e = cc

-- What a list tells is trimmed
mutual
  pub places_are : (n : ℕ) (ns : Forest) (s : Shape Fiber) → AreFor n ns s → forest (places_in n s) ≡ trimmed_in ns
  places_are n _ _ no_more = refl
  places_are n (vacant ns) s (gap a) = gap_before n s (list_begins (suc n) ns s a) ∙ ap vacant_before (places_are (suc n) ns s a)
  places_are n (child x ns) s (next {rest = rest} is a) =
      ap forest (node_is n x s rest is (list_begins (suc n) ns rest a)) ∙ ap (child (trimmed x)) (places_are (suc n) ns rest a)

  node_is : (n : ℕ) (x : Node) (s rest : Shape Fiber) → IsFor n x s rest → BeginsFrom (suc n) rest → places_in n s ≡ Some (trimmed x) ∷ places_in (suc n) rest
  node_is n _ _ rest (whole {id = id} {v = v} {e = e} {m = m} {ns = ns} {ks = ks} is shown a) b =
      let el = is.element in
      let k = places_are 0 ns ks a in
      here n id v m ks rest is.at is.stage ∙ rw (shown, el, k) refl
  node_is n _ _ rest (alone {id = id} {v = v} {e = e} {m = m} {ns = ns} {fs = fs} {ks = ks} is hidden gone a) b =
      let el = is.element in
      let k = places_are 0 fs ks a in
      here n id v m ks rest is.at is.stage ∙ rw (hidden, el, not_behind (suc n) rest b, k, no_nodes ns gone) refl
  node_is n _ _ rest (beside {id = id} {jd = jd} {v = v} {w = w} {e = e} {m = m} {ns = ns} {fs = fs} {ks = ks} {ws = ws} is hidden some a s f) b =
      let el = is.element in
      let k = places_are 0 ns ks a in
      let l = places_are 0 fs ws f in
      let g : is_fallback w.stage ≡ true = ap is_fallback s in
      here n id v m ks (fiber jd w ws rest) is.at is.stage
      ∙ rw (past (suc n) jd w ws rest (ap mark_in s), hidden, el, g, k, l) refl

-- the places of the list of a tree
places_back : (xs : List (Option Node)) (x : Node) → forest xs ≡ child x trees.none → xs ≡ Some x ∷ []
places_back [] x e = cc
places_back (None ∷ xs) x e = cc
places_back (Some y ∷ []) x e = let q : y ≡ x = cc in rw q refl
places_back (Some y ∷ (None ∷ xs)) x e = cc
places_back (Some y ∷ (Some z ∷ xs)) x e = cc

pub tree_places : (x : Node) (s : Shape Fiber) → IsTreeOf (Some x) s → places_in 0 s ≡ Some (trimmed x) ∷ []
tree_places x s a = places_back (places_in 0 s) (trimmed x) (places_are 0 (child x trees.none) s a)

no_places : (s : Shape Fiber) → AreFor 0 (vacant trees.none) s → places_in 0 s ≡ []
no_places _ (gap no_more) = refl

-- the places of a list with one tree, or none
abbrev pub alone_in : Option Node → List (Option Node)
alone_in None = []
alone_in (Some x) = Some x ∷ []

pub tree_is : (xs : List (Option Node)) (s : Shape Fiber) (x : Option Node) → xs ≡ places_in 0 s → IsTreeOf x s → xs ≡ alone_in (trimmed_if x)
tree_is xs s None e a = e ∙ no_places s a
tree_is xs s (Some x) e a = e ∙ tree_places x s a

-- so is the last of them
pub last_is : (xs ys : List (Option Node)) (s : Shape Fiber) (x n : Option Node) → xs ≡ places_in 0 s → IsTreeOf x s → xs ≡ ys ++ n ∷ [] → n ≡ trimmed_if x
last_is xs ys s x n e a f = by_list ys (trimmed_if x) (sym (tree_is xs s x e a) ∙ f)
  where
    by_list : (ys : List (Option Node)) (o : Option Node) → alone_in o ≡ ys ++ n ∷ [] → n ≡ o
    by_list [] None e = cc
    by_list [] (Some y) e = let q : Some y ≡ n = cc in sym q
    by_list (z ∷ []) None e = cc
    by_list (z ∷ []) (Some y) e = cc
    by_list (z ∷ (u ∷ zs)) None e = cc
    by_list (z ∷ (u ∷ zs)) (Some y) e = cc
