-- A walk over the fibers of some trees comes to each of their nodes.
use Rattle.std.specs.Prelude.{◌≡◌, ℕ, suc, ◌<◌, Bool, true, false, not, Option, Some, None, ◌⊎◌}
use Rattle.std.specs.Option.{option_map_or}
use Rattle.std.proofs.Common.{refl, sym, ap, ◌∙◌, subst, inl, inr, arith}
use Rattle.rx_base.specs.Awaits.{Awaits}
use Rattle.rx_elem.specs.Trees.{Forest, Mark, Node, node}
use Rattle.rx_elem.specs.Trees as trees
use Rattle.rx_lists.specs.Shapes.{Shape, fiber, first, Holds, size}
use Rattle.rx_links.specs.Drafts.{kids_of}
use Rattle.rx_links.specs.Readers.{list_from, rest_of, value_of, IsLinked}
use Rattle.rx_meaning.specs.Settled.{number_of}
use Rattle.commit_laws.specs.Each.{ForEach, ForEachIn}
use Rattle.rx_ways.specs.Ways.{Covers, CoversHere, CoversIn}
use Rattle.rx_fiber.specs.Fibers.{Fiber, Stage, begun, fallback}
use Rattle.rx_fiber.specs.Reading.{AreFor, no_more, gap, next, IsFor, whole, alone, beside, has_node}
use Rattle.rx_fiber.proofs.OldPlaces.{list_here}
use Rattle.rx_causes.specs.Marks.{begun_mark, EachBut, EachButIn, EachFiber, EachFiberBut, is_spared, SomeFiber, SomeNode, SomeNodeIn}

pub no_marks : (Q : Mark → Type 0) (ns : Forest) → has_node ns ≡ false → ForEachIn Q ns
no_marks Q trees.none e = tt
no_marks Q (trees.vacant ns) e = no_marks Q ns e
no_marks Q (trees.child x ns) e = cc

-- From trees to their fibers, and back

module _ (P : Option Mark → Type 0) where
  -- the fiber of a node has its mark
  pub at_node : (v : Fiber) (m : Mark) → v.stage ≡ begun m → P (Some m) → P (begun_mark v.stage)
  at_node v m is h = subst P (sym (ap begun_mark is)) h

  pub of_fiber : (v : Fiber) (m : Mark) → v.stage ≡ begun m → P (begun_mark v.stage) → P (Some m)
  of_fiber v m is h = subst P (ap begun_mark is) h

  mutual
    -- what holds of each mark of some trees holds of each fiber of theirs; that of a fallback has none
    pub each_fiber : P None → (n : ℕ) (ns : Forest) (s : Shape Fiber) → AreFor n ns s → ForEachIn (λ m. P (Some m)) ns → EachFiber P s
    each_fiber empty n _ _ no_more h = tt
    each_fiber empty n (trees.vacant ns) s (gap a) h = each_fiber empty (suc n) ns s a h
    each_fiber empty n (trees.child x ns) s (next {rest = rest} is a) h = fibers_of empty n x s rest is h.0 (each_fiber empty (suc n) ns rest a h.1)

    fibers_of : P None → (n : ℕ) (x : Node) (s rest : Shape Fiber) → IsFor n x s rest → ForEach (λ m. P (Some m)) x → EachFiber P rest → EachFiber P s
    fibers_of empty n _ _ rest (whole {v = v} {m = m} {ns = ns} {ks = ks} is shown a) h more = (at_node v m is.stage h.0, each_fiber empty 0 ns ks a h.1, more)
    fibers_of empty n _ _ rest (alone {v = v} {m = m} {fs = fs} {ks = ks} is hidden gone a) h more = (at_node v m is.stage h.0, each_fiber empty 0 fs ks a h.2, more)
    fibers_of empty n _ _ rest (beside {v = v} {w = w} {m = m} {ns = ns} {fs = fs} {ks = ks} {ws = ws} is hidden some a s f) h more =
        (at_node v m is.stage h.0, each_fiber empty 0 ns ks a h.1, (subst P (sym (ap begun_mark s)) empty, each_fiber empty 0 fs ws f h.2, more))

  mutual
    -- what holds of each of the fibers holds of each mark
    pub each_node : (n : ℕ) (ns : Forest) (s : Shape Fiber) → AreFor n ns s → EachFiber P s → ForEachIn (λ m. P (Some m)) ns
    each_node n _ _ no_more h = tt
    each_node n (trees.vacant ns) s (gap a) h = each_node (suc n) ns s a h
    each_node n (trees.child x ns) s (next {rest = rest} is a) h = let (here, more) = nodes_of n x s rest is h in (here, each_node (suc n) ns rest a more)

    nodes_of : (n : ℕ) (x : Node) (s rest : Shape Fiber) → IsFor n x s rest → EachFiber P s → ForEach (λ m. P (Some m)) x × EachFiber P rest
    nodes_of n _ _ rest (whole {v = v} {m = m} {ns = ns} {ks = ks} is shown a) h = ((of_fiber v m is.stage h.0, each_node 0 ns ks a h.1, tt), h.2)
    nodes_of n _ _ rest (alone {v = v} {m = m} {ns = ns} {fs = fs} {ks = ks} is hidden gone a) h =
        ((of_fiber v m is.stage h.0, no_marks (λ m. P (Some m)) ns gone, each_node 0 fs ks a h.1), h.2)
    nodes_of n _ _ rest (beside {v = v} {m = m} {ns = ns} {fs = fs} {ks = ks} {ws = ws} is hidden some a s f) h =
        ((of_fiber v m is.stage h.0, each_node 0 ns ks a h.1, each_node 0 fs ws f h.2.1), h.2.2)

  mutual
    -- what holds of some fiber holds of some mark
    pub some_node : (P None → ⊥) → (n : ℕ) (ns : Forest) (s : Shape Fiber) → AreFor n ns s → SomeFiber P s → SomeNodeIn (λ m. P (Some m)) ns
    some_node never n _ _ no_more h = h
    some_node never n (trees.vacant ns) s (gap a) h = some_node never (suc n) ns s a h
    some_node never n (trees.child x ns) s (next {rest = rest} is a) h =
        elim (some_of never n x s rest is h) [ inl here ↦ inl here | inr more ↦ inr (some_node never (suc n) ns rest a more) ]

    some_of : (P None → ⊥) → (n : ℕ) (x : Node) (s rest : Shape Fiber) → IsFor n x s rest → SomeFiber P s → SomeNode (λ m. P (Some m)) x ⊎ SomeFiber P rest
    some_of never n _ _ rest (whole {v = v} {m = m} {ns = ns} {ks = ks} is shown a) h = elim h [
      | inl here ↦ inl (inl (of_fiber v m is.stage here))
      | inr (inl below) ↦ inl (inr (inl (some_node never 0 ns ks a below)))
      | inr (inr more) ↦ inr more
    ]
    some_of never n _ _ rest (alone {v = v} {m = m} {fs = fs} {ks = ks} is hidden gone a) h = elim h [
      | inl here ↦ inl (inl (of_fiber v m is.stage here))
      | inr (inl below) ↦ inl (inr (inr (some_node never 0 fs ks a below)))
      | inr (inr more) ↦ inr more
    ]
    some_of never n _ _ rest (beside {v = v} {w = w} {m = m} {ns = ns} {fs = fs} {ks = ks} {ws = ws} is hidden some a s f) h = elim h [
      | inl here ↦ inl (inl (of_fiber v m is.stage here))
      | inr (inl below) ↦ inl (inr (inl (some_node never 0 ns ks a below)))
      | inr (inr (inl there)) ↦ absurd (never (subst P (ap begun_mark s) there))
      | inr (inr (inr (inl below))) ↦ inl (inr (inr (some_node never 0 fs ws f below)))
      | inr (inr (inr (inr more))) ↦ inr more
    ]

-- Fibers that are passed

module _ (way : ℕ → Bool) where
  numbered_off : (o : Option ℕ) → option_map_or (λ n. not (way n)) o false ≡ true → (n : ℕ) × (o ≡ Some n) × (way n ≡ false)
  numbered_off None e = cc
  numbered_off (Some n) e = (n, refl, off (way n) e)
    where
      off : (b : Bool) → not b ≡ true → b ≡ false
      off true e = cc
      off false e = refl

  -- of a node whose fiber is passed all is told by the ways
  pub spared : (Q : Mark → Type 0) (v : Fiber) (m : Mark) (x : Node) → v.stage ≡ begun m → is_spared way (begun_mark v.stage) ≡ true → CoversHere way Q m x → ForEach Q x
  spared Q v m x is off covers = let (n, number, away) = numbered_off (number_of m) (ap (is_spared way) (sym (ap begun_mark is)) ∙ off) in covers n number away

  fallback_kept : (w : Fiber) (a : Awaits) → w.stage ≡ fallback a → is_spared way (begun_mark w.stage) ≡ true → ⊥
  fallback_kept w a is off = let f : false ≡ true = ap (λ s. is_spared way (begun_mark s)) (sym is) ∙ off in cc

  module _ (P : Option Mark → Type 0) (G Q : Mark → Type 0) (told : (m : Mark) → P (Some m) → G m → Q m) where
    mutual
      -- what is told of each mark by its fiber, and by the ways if that is passed, holds of all
      pub each_covered : (n : ℕ) (ns : Forest) (s : Shape Fiber) → AreFor n ns s → EachFiberBut way P s → ForEachIn G ns → CoversIn way Q ns → ForEachIn Q ns
      each_covered n _ _ no_more h g c = tt
      each_covered n (trees.vacant ns) s (gap a) h g c = each_covered (suc n) ns s a h g c
      each_covered n (trees.child x ns) s (next {rest = rest} is a) h g c =
          let (here, more) = covered_of n x s rest is h g.0 c.0 in (here, each_covered (suc n) ns rest a more g.1 c.1)

      covered_of : (n : ℕ) (x : Node) (s rest : Shape Fiber) → IsFor n x s rest → EachFiberBut way P s → ForEach G x → Covers way Q x → ForEach Q x × EachFiberBut way P rest
      covered_of n _ _ rest (whole {v = v} {e = e} {m = m} {ns = ns} {ks = ks} is shown a) h g c = elim h.0 [
        | inl off ↦ (spared Q v m (node e m ns trees.none) is.stage off c.0, h.1)
        | inr own ↦ ((told m (of_fiber P v m is.stage own.0) g.0, each_covered 0 ns ks a own.1 g.1 c.1, tt), h.1)
      ]
      covered_of n _ _ rest (alone {v = v} {e = e} {m = m} {ns = ns} {fs = fs} {ks = ks} is hidden gone a) h g c = elim h.0 [
        | inl off ↦ (spared Q v m (node e m ns fs) is.stage off c.0, h.1)
        | inr own ↦ ((told m (of_fiber P v m is.stage own.0) g.0, no_marks Q ns gone, each_covered 0 fs ks a own.1 g.2 c.2), h.1)
      ]
      covered_of n _ _ rest (beside {v = v} {w = w} {e = e} {m = m} {ns = ns} {fs = fs} {ks = ks} {ws = ws} is hidden some a s f) h g c = elim h.0 [
        | inl off ↦ (spared Q v m (node e m ns fs) is.stage off c.0, h.1.1)
        | inr own ↦ elim h.1.0 [
          | inl off ↦ absurd (fallback_kept w _ s off)
          | inr other ↦ ((told m (of_fiber P v m is.stage own.0) g.0, each_covered 0 ns ks a own.1 g.1 c.1, each_covered 0 fs ws f other.1 g.2 c.2), h.1.1)
        ]
      ]

  pub no_but : (Q : Mark → Type 0) (ns : Forest) → has_node ns ≡ false → EachButIn way Q ns
  no_but Q trees.none e = tt
  no_but Q (trees.vacant ns) e = no_but Q ns e
  no_but Q (trees.child x ns) e = cc

  module _ (P : Option Mark → Type 0) (Q : Mark → Type 0) (told : (m : Mark) → P (Some m) → Q m) where
    mutual
      -- what is told of each mark by its fiber holds of all but those that are passed
      pub each_but : (n : ℕ) (ns : Forest) (s : Shape Fiber) → AreFor n ns s → EachFiberBut way P s → EachButIn way Q ns
      each_but n _ _ no_more h = tt
      each_but n (trees.vacant ns) s (gap a) h = each_but (suc n) ns s a h
      each_but n (trees.child x ns) s (next {rest = rest} is a) h = let (here, more) = but_of n x s rest is h in (here, each_but (suc n) ns rest a more)

      but_of : (n : ℕ) (x : Node) (s rest : Shape Fiber) → IsFor n x s rest → EachFiberBut way P s → EachBut way Q x × EachFiberBut way P rest
      but_of n _ _ rest (whole {v = v} {m = m} {ns = ns} {ks = ks} is shown a) h = elim h.0 [
        | inl off ↦ (inl (ap (is_spared way) (sym (ap begun_mark is.stage)) ∙ off), h.1)
        | inr own ↦ (inr (told m (of_fiber P v m is.stage own.0), each_but 0 ns ks a own.1, tt), h.1)
      ]
      but_of n _ _ rest (alone {v = v} {m = m} {ns = ns} {fs = fs} {ks = ks} is hidden gone a) h = elim h.0 [
        | inl off ↦ (inl (ap (is_spared way) (sym (ap begun_mark is.stage)) ∙ off), h.1)
        | inr own ↦ (inr (told m (of_fiber P v m is.stage own.0), no_but Q ns gone, each_but 0 fs ks a own.1), h.1)
      ]
      but_of n _ _ rest (beside {v = v} {w = w} {m = m} {ns = ns} {fs = fs} {ks = ks} {ws = ws} is hidden some a s f) h = elim h.0 [
        | inl off ↦ (inl (ap (is_spared way) (sym (ap begun_mark is.stage)) ∙ off), h.1.1)
        | inr own ↦ elim h.1.0 [
          | inl off ↦ absurd (fallback_kept w _ s off)
          | inr other ↦ (inr (told m (of_fiber P v m is.stage own.0), each_but 0 ns ks a own.1, each_but 0 fs ws f other.1), h.1.1)
        ]
      ]

-- The walk

module _ (c : Shape Fiber) (linked : IsLinked c) (i : ℕ) (held : Holds c i) (v : Fiber) (here : Some v ≡ value_of c i)
    (child : Option ℕ) (child_is : child ≡ first (kids_of c i)) (behind : Option ℕ) (behind_is : behind ≡ first (rest_of c i)) where
  -- the list from a fiber on, by its links
  pub list_at_links : list_from c (Some i) ≡ fiber i v (list_from c child) (list_from c behind)
  list_at_links =
      let kids : list_from c child ≡ kids_of c i = ap (list_from c) child_is ∙ sym (linked.kids i held) in
      let rest : list_from c behind ≡ rest_of c i = ap (list_from c) behind_is ∙ sym (linked.rest i held) in
      list_here c linked i held v here ∙ sym (ap (λ k. fiber i v k (list_from c behind)) kids ∙ ap (λ r. fiber i v (kids_of c i) r) rest)

  module _ (next : Option ℕ) (next_is : next ≡ Some i) where
    next_list : list_from c next ≡ fiber i v (list_from c child) (list_from c behind)
    next_list = ap (list_from c) next_is ∙ list_at_links

    pub stage_here : (P : Option Mark → Type 0) (s : Stage) → s ≡ v.stage → P (begun_mark s) → P (begun_mark v.stage)
    stage_here P s same h = subst (λ x. P (begun_mark x)) same h

    pub each_parts : (P : Option Mark → Type 0) → EachFiber P (list_from c next) → P (begun_mark v.stage) × EachFiber P (list_from c child) × EachFiber P (list_from c behind)
    each_parts P h = subst (EachFiber P) next_list h

    pub each_joins : (P : Option Mark → Type 0) → P (begun_mark v.stage) → EachFiber P (list_from c child) → EachFiber P (list_from c behind) → EachFiber P (list_from c next)
    each_joins P here below rest = subst (EachFiber P) (sym next_list) (here, below, rest)

    pub but_joins : (way : ℕ → Bool) (P : Option Mark → Type 0) → (is_spared way (begun_mark v.stage) ≡ true) ⊎ (P (begun_mark v.stage) × EachFiberBut way P (list_from c child)) → EachFiberBut way P (list_from c behind)
        → EachFiberBut way P (list_from c next)
    but_joins way P here rest = subst (EachFiberBut way P) (sym next_list) (here, rest)

    pub some_joins : (P : Option Mark → Type 0) → P (begun_mark v.stage) ⊎ (SomeFiber P (list_from c child) ⊎ SomeFiber P (list_from c behind)) → SomeFiber P (list_from c next)
    some_joins P h = subst (SomeFiber P) (sym next_list) h

    pub child_smaller : size (list_from c child) < size (list_from c next)
    child_smaller = rw next_list (omega arith)

    pub behind_smaller : size (list_from c behind) < size (list_from c next)
    behind_smaller = rw next_list (omega arith)
