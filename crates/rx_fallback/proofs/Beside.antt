-- The fiber of an old fallback stands in the old list of its boundary's fiber.
use Rattle.std.specs.Prelude.{◌≡◌, ◌≢◌, ℕ, suc, eqb, Bool, true, false, Option, Some, None, IfSome, if◌then◌else◌}
use Rattle.std.proofs.Common.{refl, sym, ap, ◌∙◌, subst, inl, inr, eq-eqb}
use Rattle.rx_lists.specs.Shapes.{Shape, none, fiber, first, Holds, IsTop}
use Rattle.rx_links.specs.Drafts.{Draft, taken, made, Trees, Fits, Follows, IsOldKids, HasTop, IsUnused, old_of, kids_of, kids_under, clone_of, or_else, list_at, shape_or_none}
use Rattle.rx_links.specs.Places.{Around, top, below, after, placed, up_of}
use Rattle.rx_links.specs.Readers.{list_from, list_under, old_list, made_parent_of, rest_of, rest_in, IsLinked}
use Rattle.rx_links.proofs.Parts.{HasKids}
use Rattle.rx_links.proofs.Edits.{IsOldAny, kids_under-is, top-any, has-here}
use Rattle.rx_fiber.specs.Fibers.{Fiber}
use Rattle.rx_elem.specs.Trees.{Node, Forest, children_if, children_of}
use Rattle.rx_fiber.specs.OldLists.{is_fallback, falls_in, begins_fallback, fallback_list}
use Rattle.rx_fiber.specs.Reading.{has_node, AreFor, next, IsFor, whole, alone, beside, IsOld, new, of}
use Rattle.rx_fiber.proofs.OldLists.{IsListIn, list_is, list_held, list_begins, no_fallback, rest_listed, kids_are, old_listed, hidden_falls}
use Rattle.rx_fiber.proofs.OldTops.{fallback_top}
use Rattle.rx_fallback.specs.Opening.{fallback_behind}
use Rattle.rx_children.proofs.Making.{KnowsPlaces}

kids_below : (c : Shape Fiber) (j l : ℕ) (k m : Shape Fiber) → HasKids c j k → HasKids k l m → HasKids c l m
kids_below none j l k m h q = absurd h
kids_below (fiber id v ks rs) j l k m (inl h) q = inr (inl (subst (λ s. HasKids s l m) (sym h.1) q))
kids_below (fiber id v ks rs) j l k m (inr (inl h)) q = inr (inl (kids_below ks j l k m h q))
kids_below (fiber id v ks rs) j l k m (inr (inr h)) q = inr (inr (kids_below rs j l k m h q))

any_below : (c : Shape Fiber) (o q : Option ℕ) (k m : Shape Fiber) → IsOldAny c o k → IsOldAny k q m → IsOldAny c q m
any_below c o None k m h a = a
any_below c None (Some l) k m h a = absurd (no_kids k h a)
  where
    no_kids : (s : Shape Fiber) → s ≡ none → HasKids s l m → ⊥
    no_kids none e g = g
    no_kids (fiber id v ks rs) e g = cc
any_below c (Some j) (Some l) k m h a = kids_below c j l k m h a

-- the current list beside which a list in progress was made
record Under (t : Trees Fiber) (k : Around Fiber) (d : Draft Fiber) : Type 0 where
  list : Shape Fiber
  follows : Follows list d
  is : list_under t (up_of k) ≡ list
  lifts : (q : Option ℕ) (m : Shape Fiber) → IsOldKids list q m → IsOldAny t.current q m
  listed : IsListIn t.current list

module _ (t : Trees Fiber) (fits : Fits t) (linked : IsLinked t.current) (knows : KnowsPlaces t) where
  listed_any : (o : Option ℕ) (k : Shape Fiber) → IsOldAny t.current o k → IsListIn t.current k
  listed_any None k h = subst (IsListIn t.current) (sym h) refl
  listed_any (Some j) k h =
      let held : Holds t.current j = has-here t.current j k h in
      let e : kids_of t.current j ≡ k = kids_under-is t.current (Some j) k fits.once h in
      sym (subst (λ s. s ≡ list_from t.current (first s)) e (linked.kids j held))

  under : (k : Around Fiber) (d : Draft Fiber) → ((s : Shape Fiber) → d ≡ taken s → ⊥) → t.draft ≡ placed k d → Under t k d
  under top d n e =
      record { list = t.current; follows = subst (Follows t.current) e fits.follows; is = refl; lifts = λ q m h. top-any t.current q m h; listed = sym linked.root }
  under (after id v o ks k) d n e =
      let u = under k (made id v o ks d) (λ s f. cc) e in
      record { list = u.list; follows = u.follows.1; is = u.is; lifts = u.lifts; listed = u.listed }
  under (below id v o rs k) d n e =
      let u = under k (made id v o d rs) (λ s f. cc) e in
      let old : IsOldAny t.current o u.follows.0.0 = u.lifts o u.follows.0.0 u.follows.0.1 in
      let here : old_of t.draft id ≡ o = (knows k id v o d rs e).old in
      record {
        list = u.follows.0.0;
        follows = elim u.follows.0.2 [ inl f ↦ absurd (n u.follows.0.0 f) | inr g ↦ g ];
        is = ap (kids_under t.current) here ∙ kids_under-is t.current o u.follows.0.0 fits.once old;
        lifts = λ q m h. any_below t.current o q u.follows.0.0 m old (top-any u.follows.0.0 q m h);
        listed = listed_any o u.follows.0.0 old;
      }

  top_of : (s : Shape Fiber) (j : ℕ) (k : Shape Fiber) → HasTop s j k → IsTop s j
  top_of none j k h = h
  top_of (fiber id v ks rs) j k (inl h) = inl h.0
  top_of (fiber id v ks rs) j k (inr h) = inr (top_of rs j k h)

  -- what stands right behind a fiber of a list is one of the list
  behind_top : (s : Shape Fiber) (j r : ℕ) → IsListIn t.current s → IsTop s j → first (rest_of t.current j) ≡ Some r → IsTop s r
  behind_top none j r l h e = h
  behind_top (fiber id v ks rs) j r l (inr h) e = inr (behind_top rs j r (rest_listed t.current id v ks rs linked l) h e)
  behind_top (fiber id v ks rs) j r l (inl h) e =
      let rest : rest_of t.current id ≡ rs = ap rest_in (list_is t.current id v ks rs l) in
      inr (is_first rs (sym (ap first rest) ∙ subst (λ i. first (rest_of t.current i) ≡ Some r) (sym h) e))
    where
      is_first : (s : Shape Fiber) → first s ≡ Some r → IsTop s r
      is_first none f = cc
      is_first (fiber jd w ls ms) f = inl (let q : jd ≡ r = cc in q)

  -- so it is one of the list beside which the alternate was made
  pub beside_top : (k : Around Fiber) (p : ℕ) (v : Fiber) (j r : ℕ) (ks rs : Draft Fiber) → t.draft ≡ placed k (made p v (Some j) ks rs)
      → first (rest_of t.current j) ≡ Some r → IsTop (old_list t p) r
  beside_top k p v j r ks rs e f =
      let u = under k (made p v (Some j) ks rs) (λ s g. cc) e in
      let parent : made_parent_of t.draft p ≡ up_of k = (knows k p v (Some j) ks rs e).parent in
      let same : old_list t p ≡ u.list = ap (list_under t) parent ∙ u.is in
      subst (λ s. IsTop s r) (sym same) (behind_top u.list j r u.listed (top_of u.list j u.follows.0.0 u.follows.0.1) f)

both_none : (a b : Option ℕ) → or_else a b ≡ None → (a ≡ None) × (b ≡ None)
both_none None b e = (refl, e)
both_none (Some x) b e = cc

-- if no made fiber is for a current one, it is unused
pub unused_if : (d : Draft Fiber) (j : ℕ) → clone_of d j ≡ None → IsUnused d j
unused_if (taken s) j e = tt
unused_if (made id v None ks rs) j e = let h = both_none (clone_of ks j) (clone_of rs j) e in (λ f. cc, unused_if ks j h.0, unused_if rs j h.1)
unused_if (made id v (Some o) ks rs) j e = by_test (eqb o j) refl e (unused_if ks j) (unused_if rs j)
  where
    by_test : (b : Bool) → eqb o j ≡ b → (if b then Some id else or_else (clone_of ks j) (clone_of rs j)) ≡ None
        → (clone_of ks j ≡ None → IsUnused ks j) → (clone_of rs j ≡ None → IsUnused rs j) → (Some o ≢ Some j) × IsUnused ks j × IsUnused rs j
    by_test true f g x y = cc
    by_test false f g x y =
        let h = both_none (clone_of ks j) (clone_of rs j) g in
        (λ same. let q : o ≡ j = cc in let r : eqb o j ≡ true = eq-eqb o j q in cc, x h.0, y h.1)

module _ (c : Shape Fiber) (linked : IsLinked c) where
  from_old : (j : ℕ) (s : Shape Fiber) → list_at c j ≡ Some s → list_from c (Some j) ≡ s
  from_old j s e = ap shape_or_none e

  -- behind a fiber whose node keeps nothing stands no fallback
  no_fallback_behind : (j n m : ℕ) (x : Node) (ns : Forest) (s rest : Shape Fiber) → IsFor n x s rest → AreFor m ns rest → has_node (children_of x) ≡ false → list_at c j ≡ Some s
      → begins_fallback (rest_of c j) ≡ false
  no_fallback_behind j n m _ ns _ rest (whole is shown a) are gone here = ap (λ l. begins_fallback (rest_in l)) here ∙ no_fallback m rest (list_begins m ns rest are)
  no_fallback_behind j n m _ ns _ rest (alone is hidden none_kept a) are gone here = ap (λ l. begins_fallback (rest_in l)) here ∙ no_fallback m rest (list_begins m ns rest are)
  no_fallback_behind j n m _ ns _ rest (beside is hidden some a s f) are gone here = absurd (let q : ⊥ = cc in q)

  -- if a boundary keeps nothing, its old fallback is among the children of its old fiber
  pub alone_tops : (o : Option ℕ) (old : Option Node) (i : ℕ) → IsOld c o old → has_node (children_if old) ≡ false → IsTop (fallback_list (list_from c o)) i → IsTop (kids_under c o) i
  alone_tops _ _ i new gone t = t
  alone_tops _ _ i (of {j = j} {n = n} {x = x} {ns = ns} {s = s} here leads (next {rest = rest} is a)) gone t =
      fallback_top c linked j i (list_held c j s here) (no_fallback_behind j n (suc n) x ns s rest is a gone here) t

  beside_node : (j n i : ℕ) (x : Node) (s rest : Shape Fiber) (r : Option ℕ) → IsFor n x s rest → has_node (children_of x) ≡ true → list_at c j ≡ Some s → first s ≡ Some j
      → r ≡ fallback_behind (list_from c (Some j)) → IsTop (fallback_list (list_from c (Some j))) i → IsTop (kids_under c r) i
  beside_node j n i _ _ rest r (whole {id = id} {v = v} {ks = ks} is shown a) some here leads e t =
      let g : falls_in v.stage ≡ false = ap falls_in is.stage ∙ shown in
      let l : fallback_list (list_from c (Some j)) ≡ none = ap fallback_list (from_old j (fiber id v ks rest) here) ∙ rw g refl in
      absurd (subst (λ s. IsTop s i) l t)
  beside_node j n i _ _ rest r (alone is hidden gone a) some here leads e t = cc
  beside_node j n i _ _ rest r (beside {id = id} {jd = jd} {v = v} {w = w} {ks = ks} {ws = ws} is hidden kept a s f) some here leads e t =
      let g : falls_in v.stage ≡ true = ap falls_in is.stage ∙ hidden_falls _ hidden in
      let h : is_fallback w.stage ≡ true = ap is_fallback s in
      let from : list_from c (Some j) ≡ fiber id v ks (fiber jd w ws rest) = from_old j (fiber id v ks (fiber jd w ws rest)) here in
      let l : fallback_list (list_from c (Some j)) ≡ ws = ap fallback_list from ∙ rw (g, h) refl in
      let b : fallback_behind (list_from c (Some j)) ≡ Some jd = ap fallback_behind from ∙ rw h refl in
      let k : kids_of c jd ≡ ws =
      kids_are c jd w ws rest linked (rest_listed c id v ks (fiber jd w ws rest) linked (old_listed c j (fiber id v ks (fiber jd w ws rest)) here leads)) in
      subst (λ o. IsTop (kids_under c o) i) (sym (e ∙ b)) (subst (λ z. IsTop z i) (l ∙ sym k) t)

  -- if it keeps something, among those of the fiber behind
  pub beside_tops : (o r : Option ℕ) (old : Option Node) (i : ℕ) → IsOld c o old → has_node (children_if old) ≡ true → r ≡ fallback_behind (list_from c o)
      → IsTop (fallback_list (list_from c o)) i → IsTop (kids_under c r) i
  beside_tops _ r _ i new some e t = cc
  beside_tops _ r _ i (of {j = j} {n = n} {x = x} {s = s} here leads (next {rest = rest} is a)) some e t = beside_node j n i x s rest r is some here leads e t

  -- what stands behind a fiber is its next sibling
  pub behind_is : (j r : ℕ) → Holds c j → Some r ≡ fallback_behind (list_from c (Some j)) → first (rest_of c j) ≡ Some r
  behind_is j r h e =
      let (v, _, l) = linked.list j h in
      by_test (begins_fallback (rest_of c j)) (sym (e ∙ ap fallback_behind l))
    where
      by_test : (b : Bool) → (if b then first (rest_of c j) else None) ≡ Some r → first (rest_of c j) ≡ Some r
      by_test true f = f
      by_test false f = cc

-- so a boundary's fiber with its old one has room for the fallback's behind it
pub sibling_top : (t : Trees Fiber) → Fits t → IsLinked t.current → KnowsPlaces t → (k : Around Fiber) (p : ℕ) (v : Fiber) (o r : Option ℕ) (ks rs : Draft Fiber)
    → t.draft ≡ placed k (made p v o ks rs) → r ≡ fallback_behind (list_from t.current o) → IfSome r (IsTop (old_list t p))
sibling_top t fits linked knows k p v None r ks rs here e = subst (λ x. IfSome x (IsTop (old_list t p))) (sym e) tt
sibling_top t fits linked knows k p v (Some j) None ks rs here e = tt
sibling_top t fits linked knows k p v (Some j) (Some r) ks rs here e =
    beside_top t fits linked knows k p v j r ks rs here
    (behind_is t.current linked j r ((knows k p v (Some j) ks rs here).old_held) e)
