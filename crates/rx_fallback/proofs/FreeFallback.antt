-- No fiber is made for the fiber of an old fallback before its boundary opens it.
use Rattle.std.specs.Prelude.{◌≡◌, ◌≢◌, ℕ, ℤ, suc, eqb, Bool, true, false, List, [], ◌∷◌, Option, Some, None, IfSome, ◌⊎◌, if◌then◌else◌}
use Rattle.std.proofs.Common.{refl, sym, ap, ◌∙◌, subst, inl, inr, eqb-true}
use Rattle.rx_elem.specs.Elements.{Element}
use Rattle.rx_elem.specs.Trees.{Node}
use Rattle.rx_lists.specs.Shapes.{Shape, fiber, first, Holds, IsTop, IsTree}
use Rattle.rx_lists.specs.Shapes as shapes
use Rattle.rx_links.specs.Drafts.{Draft, taken, made, Trees, Fits, Makes, IsMadeOnce, IsFor, IsTopUnused, IsUnused, list_at, or_else, shape_or_none, kids_under}
use Rattle.rx_links.specs.Places.{Around, top, below, after, placed, up_of}
use Rattle.rx_links.specs.Readers.{list_from, list_under, rest_of, IsLinked}
use Rattle.rx_links.proofs.Placed.{placed-once}
use Rattle.rx_meaning.specs.Cursor.{Open, Frame}
use Rattle.rx_meaning.specs.Fresh.{Contexts}
use Rattle.rx_fiber.specs.Fibers.{Fiber}
use Rattle.rx_fiber.specs.OldLists.{begins_fallback}
use Rattle.rx_fiber.specs.Surround.{old_before, second, IsOfNode, IsOldBehind, AreOldBehind, AreNext, IsAround, at_root, inside, IsListOf, of_node, of_fallback, above_list}
use Rattle.rx_fiber.specs.Surround as surround
use Rattle.rx_fiber.proofs.Arriving.{up_above}
use Rattle.rx_fiber.proofs.Completing.{whole_list, placed_list}
use Rattle.rx_fiber.proofs.OldLists.{old_of_node}
use Rattle.rx_fallback.specs.Opening.{fallback_behind}
use Rattle.rx_children.proofs.Making.{KnowsPlaces}
use Rattle.rx_fallback.proofs.Beside.{sibling_top}

-- What stands right behind a fiber

-- the fiber j stands right behind x
abbrev StandsBehind : Shape Fiber → (x j : ℕ) → Type 0
StandsBehind shapes.none x j = ⊥
StandsBehind (fiber id v ks rs) x j = ((id ≡ x) × (first rs ≡ Some j)) ⊎ (StandsBehind ks x j ⊎ StandsBehind rs x j)

first_held : (s : Shape Fiber) (j : ℕ) → first s ≡ Some j → Holds s j
first_held shapes.none j e = absurd (let q : ⊥ = cc in q)
first_held (fiber id v ks rs) j e = inl (let q : j ≡ id = cc in q)

behind_held : (s : Shape Fiber) (x j : ℕ) → StandsBehind s x j → Holds s j
behind_held shapes.none x j h = h
behind_held (fiber id v ks rs) x j (inl h) = inr (inr (first_held rs j h.1))
behind_held (fiber id v ks rs) x j (inr (inl h)) = inr (inl (behind_held ks x j h))
behind_held (fiber id v ks rs) x j (inr (inr h)) = inr (inr (behind_held rs x j h))

-- it is not the first of its list
not_first : (s : Shape Fiber) (x j : ℕ) → IsTree s → StandsBehind s x j → first s ≡ Some j → ⊥
not_first shapes.none x j tree h e = h
not_first (fiber id v ks rs) x j tree h e =
    let same : j ≡ id = cc in
    by_place (subst (λ i. StandsBehind (fiber id v ks rs) x i) same h)
  where
    by_place : StandsBehind (fiber id v ks rs) x id → ⊥
    by_place (inl g) = tree.1 (first_held rs id g.1)
    by_place (inr (inl g)) = tree.0 (behind_held ks x id g)
    by_place (inr (inr g)) = tree.1 (behind_held rs x id g)

-- it stands right behind one fiber alone
one_before : (s : Shape Fiber) (x y j : ℕ) → IsTree s → StandsBehind s x j → StandsBehind s y j → x ≡ y
one_before shapes.none x y j tree a b = absurd a
one_before (fiber id v ks rs) x y j tree (inl a) (inl b) = sym a.0 ∙ b.0
one_before (fiber id v ks rs) x y j tree (inl a) (inr (inl b)) = absurd (tree.2 j (behind_held ks y j b) (first_held rs j a.1))
one_before (fiber id v ks rs) x y j tree (inl a) (inr (inr b)) = absurd (not_first rs y j tree.4 b a.1)
one_before (fiber id v ks rs) x y j tree (inr (inl a)) (inl b) = absurd (tree.2 j (behind_held ks x j a) (first_held rs j b.1))
one_before (fiber id v ks rs) x y j tree (inr (inl a)) (inr (inl b)) = one_before ks x y j tree.3 a b
one_before (fiber id v ks rs) x y j tree (inr (inl a)) (inr (inr b)) = absurd (tree.2 j (behind_held ks x j a) (behind_held rs y j b))
one_before (fiber id v ks rs) x y j tree (inr (inr a)) (inl b) = absurd (not_first rs x j tree.4 a b.1)
one_before (fiber id v ks rs) x y j tree (inr (inr a)) (inr (inl b)) = absurd (tree.2 j (behind_held ks y j b) (behind_held rs x j a))
one_before (fiber id v ks rs) x y j tree (inr (inr a)) (inr (inr b)) = one_before rs x y j tree.4 a b

-- it is the second fiber of a list of the tree
second_behind : (s : Shape Fiber) (x j : ℕ) → second (list_from s (Some x)) ≡ Some j → StandsBehind s x j
second_behind shapes.none x j e = absurd (let q : ⊥ = cc in q)
second_behind (fiber id v ks rs) x j e = by_test (eqb id x) refl (second_behind ks x j) (second_behind rs x j) e
  where
    by_kids : (l : Option (Shape Fiber)) → list_at ks x ≡ l → (second (list_from ks (Some x)) ≡ Some j → StandsBehind ks x j) → (second (list_from rs (Some x)) ≡ Some j → StandsBehind rs x j)
        → second (shape_or_none (or_else l (list_at rs x))) ≡ Some j → StandsBehind (fiber id v ks rs) x j
    by_kids (Some s) f below_it behind_it g = inr (inl (below_it (ap (λ l. second (shape_or_none l)) f ∙ g)))
    by_kids None f below_it behind_it g = inr (inr (behind_it g))

    by_test : (b : Bool) → eqb id x ≡ b → (second (list_from ks (Some x)) ≡ Some j → StandsBehind ks x j) → (second (list_from rs (Some x)) ≡ Some j → StandsBehind rs x j)
        → second (shape_or_none (if b then Some (fiber id v ks rs) else or_else (list_at ks x) (list_at rs x))) ≡ Some j → StandsBehind (fiber id v ks rs) x j
    by_test true f below_it behind_it g = inl (eqb-true id x f, g)
    by_test false f below_it behind_it g = by_kids (list_at ks x) refl below_it behind_it g

-- The fiber of an old fallback

second_is : (s : Shape Fiber) (j : ℕ) → fallback_behind s ≡ Some j → second s ≡ Some j
second_is shapes.none j e = absurd (let q : ⊥ = cc in q)
second_is (fiber id v ks rs) j e = by_test (begins_fallback rs) e
  where
    by_test : (b : Bool) → (if b then first rs else None) ≡ Some j → first rs ≡ Some j
    by_test true f = f
    by_test false f = cc

-- it stands right behind that of its boundary
pub old_behind : (c : Shape Fiber) (o r : Option ℕ) → r ≡ fallback_behind (list_from c o) → IsOldBehind c o r
old_behind c o None e f = absurd (let q : ⊥ = cc in q)
old_behind c o (Some j) e f = second_is (list_from c o) j (sym e)

behind_falls : (c : Shape Fiber) → IsLinked c → (b j : ℕ) → Holds c b → Some j ≡ fallback_behind (list_from c (Some b)) → begins_fallback (list_from c (Some j)) ≡ true
behind_falls c linked b j held e =
    let (v, _, l) = linked.list b held in
    by_test (begins_fallback (rest_of c b)) refl (sym (e ∙ ap fallback_behind l))
  where
    by_test : (q : Bool) → begins_fallback (rest_of c b) ≡ q → (if q then first (rest_of c b) else None) ≡ Some j → begins_fallback (list_from c (Some j)) ≡ true
    by_test true f g = ap (λ i. begins_fallback (list_from c i)) (sym g) ∙ (ap begins_fallback (sym (linked.rest b held)) ∙ f)
    by_test false f g = absurd (let q : ⊥ = cc in q)

-- What is made for it

made_for : (d : Draft Fiber) (i : ℕ) (o : Option ℕ) → IsFor d i o → Makes d i
made_for (taken s) i o h = h
made_for (made id v q ks rs) i o (inl h) = inl h.0
made_for (made id v q ks rs) i o (inr (inl h)) = inr (inl (made_for ks i o h))
made_for (made id v q ks rs) i o (inr (inr h)) = inr (inr (made_for rs i o h))

placed_for : (k : Around Fiber) (d : Draft Fiber) (i : ℕ) (o : Option ℕ) → IsFor d i o → IsFor (placed k d) i o
placed_for top d i o h = h
placed_for (below id v q rs k) d i o h = placed_for k (made id v q d rs) i o (inr (inl h))
placed_for (after id v q ks k) d i o h = placed_for k (made id v q ks d) i o (inr (inr h))

-- The fiber p is made for that of an old boundary, right behind which stands that of its fallback.
module _ (t : Trees Fiber) (fits : Fits t) (p b j : ℕ) (falls : begins_fallback (list_from t.current (Some j)) ≡ true) (behind : second (list_from t.current (Some b)) ≡ Some j) where
  -- the current fiber of a node is another one
  no_node : (o : Option ℕ) → IsOfNode t.current o → o ≢ Some j
  no_node o own e =
      let f : begins_fallback (list_from t.current (Some j)) ≡ false = subst (IsOfNode t.current) e own in
      let q : ⊥ = cc in q

  -- none of the fibers that wait is for it
  next_free : (ms : List ℕ) (ws : List (ℕ × ℤ)) (n : ℕ) (xs : List (Element × Option Node)) (d : Draft Fiber) → AreNext t.current ms ws n xs d → IsTopUnused d j
  next_free ms ws n [] _ surround.no_more = tt
  next_free ms ws n (x ∷ xs) d (surround.gap null more) = next_free ms ws (suc n) xs d more
  next_free ms ws n (x ∷ xs) (made id v o ks d) (surround.next there waits old more) = (no_node o (old_of_node t.current o x.1 old), next_free ms ws (suc n) xs d more)

  -- none but p is made for the boundary's
  no_other : (k : Around Fiber) (d : Draft Fiber) → t.draft ≡ placed k d → IsFor d p (Some b) → second (list_from t.current (old_before k)) ≡ Some j → ⊥
  no_other top d here mine e = let q : ⊥ = cc in q
  no_other (below id v o rs k) d here mine e = let q : ⊥ = cc in q
  no_other (after id v None ks k) d here mine e = let q : ⊥ = cc in q
  no_other (after id v (Some a) ks k) d here mine e =
      let same : a ≡ b = one_before t.current a b j fits.once (second_behind t.current a j e) (second_behind t.current b j behind) in
      let all : Draft Fiber = made id v (Some a) ks d in
      let once : IsMadeOnce all = placed-once k all (subst IsMadeOnce here fits.made_once) in
      let i : id ≡ p =
      fits.for_one id p b (subst (λ w. IsFor w id (Some b)) (sym here) (placed_for k all id (Some b) (inl (refl, ap Some same))))
      (subst (λ w. IsFor w p (Some b)) (sym here) (placed_for k all p (Some b) (inr (inr mine)))) in
      once.1 (subst (Makes d) (sym i) (made_for d p (Some b) mine))

  -- none of the earlier siblings is for it
  earlier_free : (k : Around Fiber) (d : Draft Fiber) → t.draft ≡ placed k d → AreOldBehind t.current k → IsFor d p (Some b) → IsTopUnused d j → IsTopUnused (whole_list k d) j
  earlier_free top d here olds mine free = free
  earlier_free (below id v o rs k) d here olds mine free = free
  earlier_free (after id v o ks k) d here olds mine free =
      earlier_free k (made id v o ks d) here olds.1 (inr (inr mine))
      ((λ e. no_other k (made id v o ks d) here (inr (inr mine)) (olds.0 (subst (λ q. begins_fallback (list_from t.current q) ≡ true) (sym e) falls) ∙ e)), free)

  -- so none of the whole tree is, if the list of p is that of an open node
  list_free : (k kk : Around Fiber) (q : ℕ) (w : Fiber) (o : Option ℕ) (rest d : Draft Fiber) → KnowsPlaces t → t.draft ≡ placed k d → above_list k ≡ below q w o rest kk
      → IsTop (list_under t (up_of k)) j → IsTopUnused (whole_list k d) j → IsUnused t.draft j
  list_free k kk q w o rest d knows here above is_top free =
      let ks : Draft Fiber = whole_list k d in
      let at = knows kk q w o ks rest (here ∙ (placed_list k d ∙ ap (λ a. placed a ks) above)) in
      let up : up_of k ≡ Some q = up_above k ∙ ap up_of above in
      at.unused j (subst (λ (r : Option ℕ). IsTop (kids_under t.current r) j) at.old (subst (λ u. IsTop (list_under t u) j) up is_top)) free

  module _ (knows : KnowsPlaces t) (k : Around Fiber) (v : Fiber) (kept : Shape Fiber) (rs : Draft Fiber) (here : t.draft ≡ placed k (made p v (Some b) (taken kept) rs)) (own : IsOfNode t.current (Some b))
      (is_top : IsTop (list_under t (up_of k)) j) where
    open_free : (x : Open) (cs : Contexts) (q : ℕ) (fs : List Frame) → IsListOf t.current k q x cs fs → IsTopUnused (whole_list k (made p v (Some b) (taken kept) rs)) j → IsUnused t.draft j
    open_free x cs q fs (of_node {k₁ = kk} {v = w} {o = o} {rest = rest} above is old around) free =
        list_free k kk q w o rest (made p v (Some b) (taken kept) rs) knows here above is_top free
    open_free _ cs q fs (of_fallback {k₁ = kk} {b = i} {v = u} {w = w} {o = o} {p = r} {kept = keeps} {rest = rest} above is old falling around) free =
        list_free k (after i u o (taken keeps) kk) q w r rest (made p v (Some b) (taken kept) rs) knows here above is_top free

    around_free : (n : ℕ) (fs : List Frame) → IsAround t.current k n rs fs → IsUnused t.draft j
    around_free n fs is = by_list k n rs fs is refl refl
      where
        by_list : (l : Around Fiber) (n : ℕ) (ls : Draft Fiber) (fs : List Frame) → IsAround t.current l n ls fs → k ≡ l → rs ≡ ls → IsUnused t.draft j
        by_list _ _ _ _ at_root e f =
            subst (λ w. IsUnused w j) (sym (here ∙ (ap (λ l. placed l (made p v (Some b) (taken kept) rs)) e ∙ ap (made p v (Some b) (taken kept)) f))) (no_node (Some b) own, tt, tt)
        by_list l n ls (g ∷ fs) (inside {q = q} before later list) e f =
            let free : IsTopUnused rs j = subst (λ d. IsTopUnused d j) (sym f) (next_free _ _ (suc n) g.rest ls later) in
            open_free g.node g.contexts q fs (subst (λ a. IsListOf t.current a q g.node g.contexts fs) (sym e) list)
            (earlier_free k (made p v (Some b) (taken kept) rs) here (subst (AreOldBehind t.current) (sym e) before.olds) (inl (refl, refl)) (no_node (Some b) own, free))

-- If a boundary has its old primary taken over, none is made for its old fallback.
pub fallback_free : (t : Trees Fiber) → Fits t → IsLinked t.current → KnowsPlaces t → (k : Around Fiber) (p n : ℕ) (v : Fiber) (o r : Option ℕ) (kept : Shape Fiber) (rs : Draft Fiber) (fs : List Frame)
    → t.draft ≡ placed k (made p v o (taken kept) rs) → IsAround t.current k n rs fs → IsOfNode t.current o → r ≡ fallback_behind (list_from t.current o) → IfSome r (IsUnused t.draft)
fallback_free t fits linked knows k p n v o None kept rs fs here is own e = tt
fallback_free t fits linked knows k p n v None (Some j) kept rs fs here is own e = absurd (let q : ⊥ = cc in q)
fallback_free t fits linked knows k p n v (Some b) (Some j) kept rs fs here is own e =
    let at = knows k p v (Some b) (taken kept) rs here in
    around_free t fits p b j (behind_falls t.current linked b j at.old_held e) (second_is (list_from t.current (Some b)) j (sym e)) knows k v kept rs here own
    (subst (λ u. IsTop (list_under t u) j) at.parent (sibling_top t fits linked knows k p v (Some b) (Some j) (taken kept) rs here e)) n fs is
