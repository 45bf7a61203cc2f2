-- The current fibers of a node tell its old lists.
use Rattle.std.specs.Prelude.{◌≡◌, ℕ, suc, ◌+◌, ◌-◌, ◌≤◌, Bool, true, false, ◌&&◌, ◌||◌, ◌∷◌, Option, Some, None, if◌then◌else◌, ◌⊎◌, is_some}
use Rattle.std.proofs.Common.{refl, sym, ap, ◌∙◌, subst, inl, inr, arith}
use Rattle.rx_elem.specs.Elements.{Element}
use Rattle.rx_elem.specs.Trees.{Node, Forest, element_of, elements_in, places, children_if, children_of, fallback_if, fallback_of, is_caught, is_hidden, shows_fallback}
use Rattle.rx_elem.specs.Trees as trees
use Rattle.rx_lists.specs.Shapes.{Shape, none, fiber, first, Holds}
use Rattle.rx_links.specs.Drafts.{list_at, shape_or_none, kids_of, kids_under}
use Rattle.rx_links.specs.Readers.{list_from, rest_of, rest_in, IsLinked}
use Rattle.rx_links.proofs.Reading.{holds_or_not, list_at-absent}
use Rattle.rx_fiber.specs.Fibers.{Fiber, Stage, waiting, begun, trying, guarding, fallback}
use Rattle.rx_fiber.specs.Reading.{has_node, IsOf, AreFor, no_more, gap, next, IsFor, whole, alone, beside, IsOld, new, of}
use Rattle.rx_fiber.specs.OldLists.{is_fallback, falls_in, hides_in, begins_fallback, first_kids, primary_list, fallback_list, spread}

-- The places of fibers

-- a list begins at this place or later, and not with a fallback
abbrev pub BeginsFrom : ℕ → Shape Fiber → Type 0
BeginsFrom n none = Unit {0}
BeginsFrom n (fiber id v ks rs) = (n ≤ v.place) × (is_fallback v.stage ≡ false)

earlier : (n : ℕ) (s : Shape Fiber) → BeginsFrom (suc n) s → BeginsFrom n s
earlier n none h = tt
earlier n (fiber id v ks rs) h = (let l : suc n ≤ v.place = h.0 in omega arith, h.1)

of_begins : (n : ℕ) (e : Element) (m : trees.Mark) (id : ℕ) (v : Fiber) (ks rs : Shape Fiber) → IsOf v n e m → BeginsFrom n (fiber id v ks rs)
of_begins n e m id v ks rs is = let p : v.place ≡ n = is.at in (omega arith, ap is_fallback is.stage)

node_begins : (n : ℕ) (x : Node) (s rest : Shape Fiber) → IsFor n x s rest → BeginsFrom n s
node_begins n _ _ rest (whole {id = id} {v = v} {e = e} {m = m} {ks = ks} is shown a) = of_begins n e m id v ks rest is
node_begins n _ _ rest (alone {id = id} {v = v} {e = e} {m = m} {ks = ks} is hidden gone a) = of_begins n e m id v ks rest is
node_begins n _ _ rest (beside {id = id} {jd = jd} {v = v} {w = w} {e = e} {m = m} {ks = ks} {ws = ws} is hidden some a s b) =
    of_begins n e m id v ks (fiber jd w ws rest) is

pub list_begins : (n : ℕ) (ns : Forest) (s : Shape Fiber) → AreFor n ns s → BeginsFrom n s
list_begins n _ _ no_more = tt
list_begins n (trees.vacant ns) s (gap a) = earlier n s (list_begins (suc n) ns s a)
list_begins n (trees.child x ns) s (next {rest = rest} is a) = node_begins n x s rest is

pub no_fallback : (n : ℕ) (s : Shape Fiber) → BeginsFrom n s → begins_fallback s ≡ false
no_fallback n none h = refl
no_fallback n (fiber id v ks rs) h = h.1

-- Lists of the current tree

-- the list is one of the tree
abbrev pub IsListIn : Shape Fiber → Shape Fiber → Type 0
IsListIn c s = list_from c (first s) ≡ s

listed_at : (c s : Shape Fiber) (o : Option (Shape Fiber)) (id : ℕ) (v : Fiber) (ks rs : Shape Fiber) → shape_or_none o ≡ fiber id v ks rs → o ≡ Some (fiber id v ks rs)
listed_at c s None id v ks rs e = cc
listed_at c s (Some x) id v ks rs e = ap Some e

pub list_is : (c : Shape Fiber) (id : ℕ) (v : Fiber) (ks rs : Shape Fiber) → IsListIn c (fiber id v ks rs) → list_at c id ≡ Some (fiber id v ks rs)
list_is c id v ks rs e = listed_at c c (list_at c id) id v ks rs e

pub list_held : (c : Shape Fiber) (id : ℕ) (s : Shape Fiber) → list_at c id ≡ Some s → Holds c id
list_held c id s e = by_cases (holds_or_not c id)
  where
    by_cases : Holds c id ⊎ (Holds c id → ⊥) → Holds c id
    by_cases (inl h) = h
    by_cases (inr n) = let a = list_at-absent c id n in absurd (let q : ⊥ = cc in q)

pub rest_listed : (c : Shape Fiber) (id : ℕ) (v : Fiber) (ks rs : Shape Fiber) → IsLinked c → IsListIn c (fiber id v ks rs) → IsListIn c rs
rest_listed c id v ks rs linked e =
    let l = list_is c id v ks rs e in
    let r : rest_of c id ≡ rs = ap rest_in l in
    sym (subst (λ s. s ≡ list_from c (first s)) r (linked.rest id (list_held c id (fiber id v ks rs) l)))

pub kids_are : (c : Shape Fiber) (id : ℕ) (v : Fiber) (ks rs : Shape Fiber) → IsLinked c → IsListIn c (fiber id v ks rs) → kids_of c id ≡ ks
kids_are c id v ks rs linked e =
    let l = list_is c id v ks rs e in
    let (u, is, f) = linked.list id (list_held c id (fiber id v ks rs) l) in
    let g : fiber id u (kids_of c id) (rest_of c id) ≡ fiber id v ks rs = sym f ∙ e in
    cc

pub kids_listed : (c : Shape Fiber) (id : ℕ) (v : Fiber) (ks rs : Shape Fiber) → IsLinked c → IsListIn c (fiber id v ks rs) → IsListIn c ks
kids_listed c id v ks rs linked e =
    let l = list_is c id v ks rs e in
    sym (subst (λ s. s ≡ list_from c (first s)) (kids_are c id v ks rs linked e) (linked.kids id (list_held c id (fiber id v ks rs) l)))

pub old_listed : (c : Shape Fiber) (j : ℕ) (s : Shape Fiber) → list_at c j ≡ Some s → first s ≡ Some j → IsListIn c s
old_listed c j s e f = rw f (ap shape_or_none e)

-- The lists of an old node

no_nodes : (n : ℕ) (ns : Forest) → has_node ns ≡ false → AreFor n ns none
no_nodes n trees.none e = no_more
no_nodes n (trees.vacant ns) e = gap (no_nodes (suc n) ns e)
no_nodes n (trees.child x ns) e = cc

-- a list of the current tree that stands for these places
pub record IsListFor (c : Shape Fiber) (ns : Forest) (s : Shape Fiber) : Type 0 where
  pub are : AreFor 0 ns s
  pub listed : IsListIn c s

-- a node that shows its children is not hidden
pub not_hidden : (m : trees.Mark) → shows_fallback m ≡ false → is_hidden m ≡ false
not_hidden m e = first_false (is_hidden m) (is_caught m) e
  where
    first_false : (a b : Bool) → a || b ≡ false → a ≡ false
    first_false true b f = cc
    first_false false b f = refl

-- one that is hidden shows its fallback
pub hidden_falls : (m : trees.Mark) → is_hidden m ≡ true → shows_fallback m ≡ true
hidden_falls m e = rw e refl

-- so does a fiber
pub hides_falls : (s : Stage) → hides_in s ≡ true → falls_in s ≡ true
hides_falls (waiting c) e = cc
hides_falls (begun m) e = hidden_falls m e
hides_falls (trying c) e = cc
hides_falls guarding e = cc
hides_falls (fallback a) e = cc

primary_shown : (v : Fiber) (m : trees.Mark) (id : ℕ) (ks rs : Shape Fiber) → v.stage ≡ begun m → shows_fallback m ≡ false → primary_list (fiber id v ks rs) ≡ ks
primary_shown v m id ks rs e f = let g : falls_in v.stage ≡ false = ap falls_in e ∙ f in rw g refl

primary_gone : (v : Fiber) (m : trees.Mark) (id : ℕ) (ks rs : Shape Fiber) → v.stage ≡ begun m → shows_fallback m ≡ true → begins_fallback rs ≡ false → primary_list (fiber id v ks rs) ≡ none
primary_gone v m id ks rs e f h = let g : falls_in v.stage ≡ true = ap falls_in e ∙ f in rw (g, h) refl

primary_kept : (v : Fiber) (id : ℕ) (ks rs : Shape Fiber) → begins_fallback rs ≡ true → primary_list (fiber id v ks rs) ≡ ks
primary_kept v id ks rs h = rw h (kept (falls_in v.stage))
  where
    kept : (b : Bool) → (if b && false then none else ks) ≡ ks
    kept true = refl
    kept false = refl

fallback_shown : (v : Fiber) (m : trees.Mark) (id : ℕ) (ks rs : Shape Fiber) → v.stage ≡ begun m → shows_fallback m ≡ false → fallback_list (fiber id v ks rs) ≡ none
fallback_shown v m id ks rs e f = let g : falls_in v.stage ≡ false = ap falls_in e ∙ f in rw g refl

fallback_alone : (v : Fiber) (m : trees.Mark) (id : ℕ) (ks rs : Shape Fiber) → v.stage ≡ begun m → shows_fallback m ≡ true → begins_fallback rs ≡ false → fallback_list (fiber id v ks rs) ≡ ks
fallback_alone v m id ks rs e f h = let g : falls_in v.stage ≡ true = ap falls_in e ∙ f in rw (g, h) refl

fallback_beside : (v : Fiber) (m : trees.Mark) (id : ℕ) (ks rs : Shape Fiber) → v.stage ≡ begun m → is_hidden m ≡ true → begins_fallback rs ≡ true → fallback_list (fiber id v ks rs) ≡ first_kids rs
fallback_beside v m id ks rs e f h = let g : falls_in v.stage ≡ true = ap falls_in e ∙ hidden_falls m f in rw (g, h) refl

module _ (c : Shape Fiber) (linked : IsLinked c) where
  primary_node : (n : ℕ) (x : Node) (s rest : Shape Fiber) → IsFor n x s rest → BeginsFrom (suc n) rest → IsListIn c s → IsListFor c (children_of x) (primary_list s)
  primary_node n _ _ rest (whole {id = id} {v = v} {m = m} {ns = ns} {ks = ks} is shown a) b l =
      subst (λ s. IsListFor c ns s) (sym (primary_shown v m id ks rest is.stage shown)) (record { are = a; listed = kids_listed c id v ks rest linked l })
  primary_node n _ _ rest (alone {id = id} {v = v} {m = m} {ns = ns} {ks = ks} is hidden gone a) b l =
      subst (λ s. IsListFor c ns s) (sym (primary_gone v m id ks rest is.stage hidden (no_fallback (suc n) rest b))) (record { are = no_nodes 0 ns gone; listed = refl })
  primary_node n _ _ rest (beside {id = id} {jd = jd} {v = v} {w = w} {ns = ns} {ks = ks} {ws = ws} is hidden some a s f) b l =
      subst (λ s. IsListFor c ns s) (sym (primary_kept v id ks (fiber jd w ws rest) (ap is_fallback s)))
      (record { are = a; listed = kids_listed c id v ks (fiber jd w ws rest) linked l })

  fallback_node : (n : ℕ) (x : Node) (s rest : Shape Fiber) → IsFor n x s rest → BeginsFrom (suc n) rest → IsListIn c s → IsListFor c (fallback_of x) (fallback_list s)
  fallback_node n _ _ rest (whole {id = id} {v = v} {m = m} {ns = ns} {ks = ks} is shown a) b l =
      subst (λ s. IsListFor c trees.none s) (sym (fallback_shown v m id ks rest is.stage shown)) (record { are = no_more; listed = refl })
  fallback_node n _ _ rest (alone {id = id} {v = v} {m = m} {ns = ns} {fs = fs} {ks = ks} is hidden gone a) b l =
      subst (λ s. IsListFor c fs s) (sym (fallback_alone v m id ks rest is.stage hidden (no_fallback (suc n) rest b)))
      (record { are = a; listed = kids_listed c id v ks rest linked l })
  fallback_node n _ _ rest (beside {id = id} {jd = jd} {v = v} {w = w} {m = m} {ns = ns} {fs = fs} {ks = ks} {ws = ws} is hidden some a s f) b l =
      subst (λ s. IsListFor c fs s) (sym (fallback_beside v m id ks (fiber jd w ws rest) is.stage hidden (ap is_fallback s)))
      (record { are = f; listed = kids_listed c jd w ws rest linked (rest_listed c id v ks (fiber jd w ws rest) linked l) })

  from_old : (j : ℕ) (s : Shape Fiber) → list_at c j ≡ Some s → s ≡ list_from c (Some j)
  from_old j s e = sym (ap shape_or_none e)

  -- The children of an old node, of a boundary its primary, are read from its fiber.
  pub primary_is : (o : Option ℕ) (old : Option Node) → IsOld c o old → IsListFor c (children_if old) (primary_list (list_from c o))
  primary_is _ _ new = record { are = no_more; listed = refl }
  primary_is _ _ (of {j = j} {n = n} {x = x} {ns = ns} {s = s} here leads (next {rest = rest} is a)) =
      subst (λ l. IsListFor c (children_of x) (primary_list l)) (from_old j s here)
      (primary_node n x s rest is (list_begins (suc n) ns rest a) (old_listed c j s here leads))

  -- So is its fallback.
  pub fallback_is : (o : Option ℕ) (old : Option Node) → IsOld c o old → IsListFor c (fallback_if old) (fallback_list (list_from c o))
  fallback_is _ _ new = record { are = no_more; listed = refl }
  fallback_is _ _ (of {j = j} {n = n} {x = x} {ns = ns} {s = s} here leads (next {rest = rest} is a)) =
      subst (λ l. IsListFor c (fallback_of x) (fallback_list l)) (from_old j s here)
      (fallback_node n x s rest is (list_begins (suc n) ns rest a) (old_listed c j s here leads))

  -- what an old node keeps, if it keeps some, is what its fiber has as children
  pub kept_is : (o : Option ℕ) (old : Option Node) → IsOld c o old → has_node (children_if old) ≡ true → AreFor 0 (children_if old) (kids_under c o)
  kept_is _ _ new some = cc
  kept_is _ _ (of {j = j} {n = n} {x = x} here leads (next {s = s} {rest = rest} is a)) some = node_kept n x s rest is some (old_listed c j s here leads) leads
    where
      node_kept : (n : ℕ) (x : Node) (s rest : Shape Fiber) → IsFor n x s rest → has_node (children_of x) ≡ true → IsListIn c s → first s ≡ Some j
          → AreFor 0 (children_of x) (kids_of c j)
      node_kept n _ _ rest (whole {id = id} {v = v} {ns = ns} {ks = ks} is shown a) some l f =
          let q : id ≡ j = cc in subst (λ i. AreFor 0 ns (kids_of c i)) q (subst (λ k. AreFor 0 ns k) (sym (kids_are c id v ks rest linked l)) a)
      node_kept n _ _ rest (alone is hidden gone a) some l f = cc
      node_kept n _ _ rest (beside {id = id} {jd = jd} {v = v} {w = w} {ns = ns} {ks = ks} {ws = ws} is hidden some a s b) more l f =
          let q : id ≡ j = cc in subst (λ i. AreFor 0 ns (kids_of c i)) q (subst (λ k. AreFor 0 ns k) (sym (kids_are c id v ks (fiber jd w ws rest) linked l)) a)

-- the current fiber of a node is not that of a fallback
pub old_of_node : (c : Shape Fiber) (o : Option ℕ) (old : Option Node) → IsOld c o old → begins_fallback (list_from c o) ≡ false
old_of_node c _ _ new = refl
old_of_node c _ _ (of {j = j} {n = n} {x = x} {ns = ns} {s = s} here leads a) =
    ap (λ l. begins_fallback (shape_or_none l)) here ∙ no_fallback n s (list_begins n (trees.child x ns) s a)

-- a list of places has a node if its list of fibers is not empty
pub has_node_is : (n : ℕ) (ns : Forest) (s : Shape Fiber) → AreFor n ns s → has_node ns ≡ is_some (first s)
has_node_is n _ _ no_more = refl
has_node_is n (trees.vacant ns) s (gap a) = has_node_is (suc n) ns s a
has_node_is n (trees.child x ns) s (next {rest = rest} is a) = by_node n x s rest is
  where
    by_node : (n : ℕ) (x : Node) (s rest : Shape Fiber) → IsFor n x s rest → true ≡ is_some (first s)
    by_node n _ _ rest (whole is shown a) = refl
    by_node n _ _ rest (alone is hidden gone a) = refl
    by_node n _ _ rest (beside is hidden some a s b) = refl

-- The places of an old list

module _ {A : Type 0} (g : A) (tells : ℕ → Fiber → A) where
  pub spread_gap : (n id : ℕ) (v : Fiber) (ks rs : Shape Fiber) → BeginsFrom (suc n) (fiber id v ks rs)
      → spread g tells n (fiber id v ks rs) ≡ g ∷ spread g tells (suc n) (fiber id v ks rs)
  spread_gap n id v ks rs h =
      let l : suc n ≤ v.place = h.0 in
      let e : v.place - n ≡ suc (v.place - suc n) = omega arith in
      let q : n + suc (v.place - suc n) ≡ suc n + (v.place - suc n) = omega arith in
      let f : is_fallback v.stage ≡ false = h.1 in
      rw (f, e, q) refl

  spread_here : (n id : ℕ) (v : Fiber) (ks rs : Shape Fiber) → v.place ≡ n → is_fallback v.stage ≡ false
      → spread g tells n (fiber id v ks rs) ≡ tells id v ∷ spread g tells (suc n) rs
  spread_here n id v ks rs p f =
      let e : v.place - n ≡ 0 = omega arith in
      let q : n + 0 ≡ n = omega arith in
      rw (f, e, q) refl

  spread_past : (n id : ℕ) (v : Fiber) (ks rs : Shape Fiber) → is_fallback v.stage ≡ true → spread g tells n (fiber id v ks rs) ≡ spread g tells n rs
  spread_past n id v ks rs f = rw f refl

  -- what a node's fiber tells stands at its place
  pub spread_node : (n : ℕ) (x : Node) (s rest : Shape Fiber) → IsFor n x s rest
      → (id : ℕ) × (v : Fiber) × (first s ≡ Some id) × (v.element ≡ element_of x) × (spread g tells n s ≡ tells id v ∷ spread g tells (suc n) rest)
  spread_node n _ _ rest (whole {id = id} {v = v} {ks = ks} is shown a) = (id, v, refl, is.element, spread_here n id v ks rest is.at (ap is_fallback is.stage))
  spread_node n _ _ rest (alone {id = id} {v = v} {ks = ks} is hidden gone a) = (id, v, refl, is.element, spread_here n id v ks rest is.at (ap is_fallback is.stage))
  spread_node n _ _ rest (beside {id = id} {jd = jd} {v = v} {w = w} {ks = ks} {ws = ws} is hidden some a s b) = (
    id,
    v,
    refl,
    is.element,
    spread_here n id v ks (fiber jd w ws rest) is.at (ap is_fallback is.stage)
        ∙ ap (λ l. tells id v ∷ l) (spread_past (suc n) jd w ws rest (ap is_fallback s)),
  )
