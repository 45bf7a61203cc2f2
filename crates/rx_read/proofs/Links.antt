-- Where the links of one fiber of the two trees lead.
use Rattle.std.proofs.Common.{◌≡◌, ◌⊎◌, inl, inr, ℕ, refl, sym, ap, ◌∙◌, subst, Option, Some, None, IfSome}
use Rattle.rx_lists.specs.Shapes.{Shape, none, fiber, first, Holds}
use Rattle.rx_lists.proofs.Frames.{holds-true, apart-false}
use Rattle.rx_links.specs.Drafts.{Draft, taken, made, Trees, entry, Makes, Fits, Follows, HasTop, IsOldKids, grafted, kids_of}
use Rattle.rx_links.specs.Places.{Around, top, below, after, placed}
use Rattle.rx_links.specs.Readers.{value_of, rest_of, list_from, IsLinked, made_list_at, made_value_of, made_kids_of, made_rest_of, IsIn}
use Rattle.rx_links.proofs.Placed.{is-at}
use Rattle.rx_fiber.specs.Fibers.{Fiber}
use Rattle.rx_fiber.proofs.OldLists.{IsListIn, list_is, list_held, kids_listed, rest_listed}
use Rattle.rx_read.specs.Lists.{list_of}

-- What was taken over is a list of the current tree

-- each list that the draft took over is one of the tree
abbrev pub IsKept : Shape Fiber → Draft Fiber → Type 0
IsKept c (taken s) = IsListIn c s
IsKept c (made id v o ks rs) = IsKept c ks × IsKept c rs

pub top_listed : (c s : Shape Fiber) (j : ℕ) (k : Shape Fiber) → IsLinked c → HasTop s j k → IsListIn c s → IsListIn c k
top_listed c none j k linked h l = absurd h
top_listed c (fiber id v ks rs) j k linked (inl h) l = subst (IsListIn c) h.1 (kids_listed c id v ks rs linked l)
top_listed c (fiber id v ks rs) j k linked (inr h) l = top_listed c rs j k linked h (rest_listed c id v ks rs linked l)

pub old_listed : (c s : Shape Fiber) (o : Option ℕ) (k : Shape Fiber) → IsLinked c → IsOldKids s o k → IsListIn c s → IsListIn c k
old_listed c s None k linked h l = subst (IsListIn c) (sym h) refl
old_listed c s (Some j) k linked h l = top_listed c s j k linked h l

follows_kept : (c s : Shape Fiber) (w : Draft Fiber) → IsLinked c → Follows s w → IsListIn c s → IsKept c w
follows_kept c s (taken k) linked h l = subst (IsListIn c) (sym h) refl
follows_kept c s (made id v o ks rs) linked (h, rest) l =
    (by_kids h.0 (old_listed c s o h.0 linked h.1 l) h.2 (λ f. follows_kept c h.0 ks linked f (old_listed c s o h.0 linked h.1 l)), follows_kept c s rs linked rest l)
  where
    by_kids : (k : Shape Fiber) → IsListIn c k → (ks ≡ taken k) ⊎ Follows k ks → (Follows k ks → IsKept c ks) → IsKept c ks
    by_kids k listed (inl e) f = subst (IsKept c) (sym e) listed
    by_kids k listed (inr g) f = f g

pub draft_kept : (t : Trees Fiber) → Fits t → IsLinked t.current → IsKept t.current t.draft
draft_kept t fits linked = follows_kept t.current t.current t.draft linked fits.follows (sym linked.root)

kept_placed : (c : Shape Fiber) (k : Around Fiber) (d : Draft Fiber) → IsKept c (placed k d) → IsKept c d
kept_placed c top d h = h
kept_placed c (below id v o rs k) d h = let q = kept_placed c k (made id v o d rs) h in q.0
kept_placed c (after id v o ks k) d h = let q = kept_placed c k (made id v o ks d) h in q.1

-- Where a made fiber stands

-- a made fiber at its place
pub record Stands (w : Draft Fiber) (i : ℕ) : Type 0 where
  pub around : Around Fiber
  pub value : Fiber
  pub old : Option ℕ
  pub kids : Draft Fiber
  pub rest : Draft Fiber
  pub here : w ≡ placed around (made i value old kids rest)

stands_in : (w : Draft Fiber) (k : Around Fiber) (d : Draft Fiber) (i : ℕ) → w ≡ placed k d → Makes d i → Stands w i
stands_in w k (taken s) i e m = absurd m
stands_in w k (made id v o ks rs) i e (inl q) =
    record { around = k; value = v; old = o; kids = ks; rest = rs; here = subst (λ j. w ≡ placed k (made j v o ks rs)) (sym q) e }
stands_in w k (made id v o ks rs) i e (inr (inl m)) = stands_in w (below id v o rs k) ks i e m
stands_in w k (made id v o ks rs) i e (inr (inr m)) = stands_in w (after id v o ks k) rs i e m

pub stands : (w : Draft Fiber) (i : ℕ) → Makes w i → Stands w i
stands w i m = stands_in w top w i refl m

-- The lists of links

pub list_of_current : (t : Trees Fiber) (i : ℕ) → Holds t.current i → list_of t (Some i) ≡ list_from t.current (Some i)
list_of_current t i h = rw (holds-true t.current i h) refl

pub list_of_first : (t : Trees Fiber) (s : Shape Fiber) → IsListIn t.current s → (list_of t (first s) ≡ s) × IfSome (first s) (IsIn t)
list_of_first t none l = (refl, tt)
list_of_first t (fiber id v ks rs) l =
    let h = list_held t.current id (fiber id v ks rs) (list_is t.current id v ks rs l) in
    (list_of_current t id h ∙ l, inl h)

pub list_of_made : (t : Trees Fiber) (i : ℕ) (d : Draft Fiber) → Fits t → Makes t.draft i → made_list_at t.draft i ≡ Some d → list_of t (Some i) ≡ grafted d
list_of_made t i d fits m e = rw (apart-false t.current i (λ h. fits.apart i h m), e) refl

pub list_of_entry : (t : Trees Fiber) → Fits t → IsLinked t.current → (k : Around Fiber) (d : Draft Fiber) → t.draft ≡ placed k d
    → (list_of t (entry d) ≡ grafted d) × IfSome (entry d) (IsIn t)
list_of_entry t fits linked k (taken s) e = list_of_first t s (kept_placed t.current k (taken s) (subst (IsKept t.current) e (draft_kept t fits linked)))
list_of_entry t fits linked k (made id v o ks rs) e =
    let at = is-at t fits k id v o ks rs e in
    (list_of_made t id (made id v o ks rs) fits at.makes at.list, inr at.makes)

three : (i : ℕ) {u v : Fiber} {ks ls rs ts : Shape Fiber} → u ≡ v → ks ≡ ls → rs ≡ ts → fiber i u ks rs ≡ fiber i v ls ts
three i p q r = λ k. fiber i (p k) (q k) (r k)

-- what was taken over is current
pub taken_held : (t : Trees Fiber) → Fits t → IsLinked t.current → (k : Around Fiber) (s : Shape Fiber) → t.draft ≡ placed k (taken s) → IfSome (first s) (Holds t.current)
taken_held t fits linked k none e = tt
taken_held t fits linked k (fiber id v ks rs) e =
    list_held t.current id (fiber id v ks rs)
    (list_is t.current id v ks rs (kept_placed t.current k (taken (fiber id v ks rs)) (subst (IsKept t.current) e (draft_kept t fits linked))))

-- a fiber of the two trees: its list is its value over the list of its child link, before that of its sibling link
pub record Linked (t : Trees Fiber) (i : ℕ) (v : Fiber) (child sibling : Option ℕ) : Type 0 where
  pub list : list_of t (Some i) ≡ fiber i v (list_of t child) (list_of t sibling)
  pub child_in : IfSome child (IsIn t)
  pub sibling_in : IfSome sibling (IsIn t)

module _ (t : Trees Fiber) (fits : Fits t) (linked : IsLinked t.current) (i : ℕ) (v : Fiber) (c s : Option ℕ) where
  linked_current : Holds t.current i → Some v ≡ value_of t.current i → c ≡ first (kids_of t.current i) → s ≡ first (rest_of t.current i) → Linked t i v c s
  linked_current h value child sibling =
      let (u, is, l) = linked.list i h in
      let q : u ≡ v = cc in
      let kids = list_of_first t (kids_of t.current i) (sym (linked.kids i h)) in
      let rest = list_of_first t (rest_of t.current i) (sym (linked.rest i h)) in
      record {
        list = list_of_current t i h ∙ (l ∙ sym (three i (sym q) (ap (list_of t) child ∙ kids.0) (ap (list_of t) sibling ∙ rest.0)));
        child_in = subst (λ o. IfSome o (IsIn t)) (sym child) kids.1;
        sibling_in = subst (λ o. IfSome o (IsIn t)) (sym sibling) rest.1;
      }

  linked_made : Makes t.draft i → Some v ≡ made_value_of t.draft i → c ≡ entry (made_kids_of t.draft i) → s ≡ entry (made_rest_of t.draft i) → Linked t i v c s
  linked_made m value child sibling =
      let p = stands t.draft i m in
      let at = is-at t fits p.around i p.value p.old p.kids p.rest p.here in
      let l = at.list in
      let is : Some v ≡ Some p.value = rw l at value in
      let kids = list_of_entry t fits linked (below i p.value p.old p.rest p.around) p.kids p.here in
      let rest = list_of_entry t fits linked (after i p.value p.old p.kids p.around) p.rest p.here in
      let child_is : c ≡ entry p.kids = rw l at child in
      let sibling_is : s ≡ entry p.rest = rw l at sibling in
      let value_is : v ≡ p.value = cc in
      let child_list : list_of t c ≡ grafted p.kids = ap (list_of t) child_is ∙ kids.0 in
      let sibling_list : list_of t s ≡ grafted p.rest = ap (list_of t) sibling_is ∙ rest.0 in
      record {
        list = list_of_made t i (made i p.value p.old p.kids p.rest) fits m l ∙ sym (three i value_is child_list sibling_list);
        child_in = subst (λ o. IfSome o (IsIn t)) (sym child_is) kids.1;
        sibling_in = subst (λ o. IfSome o (IsIn t)) (sym sibling_is) rest.1;
      }

  pub links : IsIn t i
      → (Holds t.current i → Some v ≡ value_of t.current i) → (Makes t.draft i → Some v ≡ made_value_of t.draft i)
      → (Holds t.current i → c ≡ first (kids_of t.current i)) → (Makes t.draft i → c ≡ entry (made_kids_of t.draft i))
      → (Holds t.current i → s ≡ first (rest_of t.current i)) → (Makes t.draft i → s ≡ entry (made_rest_of t.draft i))
      → Linked t i v c s
  links (inl h) v1 v2 c1 c2 s1 s2 = linked_current h (v1 h) (c1 h) (s1 h)
  links (inr m) v1 v2 c1 c2 s1 s2 = linked_made m (v2 m) (c2 m) (s2 m)

module _ (t : Trees Fiber) (fits : Fits t) (linked : IsLinked t.current) (i : ℕ) where
  -- the list of a fiber by its value
  pub by_value : (v : Fiber) → IsIn t i → (Holds t.current i → Some v ≡ value_of t.current i) → (Makes t.draft i → Some v ≡ made_value_of t.draft i)
      → (c : Option ℕ) × (s : Option ℕ) × Linked t i v c s
  by_value v (inl h) v1 v2 = (first (kids_of t.current i), first (rest_of t.current i), linked_current t fits linked i v _ _ h (v1 h) refl refl)
  by_value v (inr m) v1 v2 = (entry (made_kids_of t.draft i), entry (made_rest_of t.draft i), linked_made t fits linked i v _ _ m (v2 m) refl refl)

  -- by its child link
  pub by_child : (c : Option ℕ) → IsIn t i → (Holds t.current i → c ≡ first (kids_of t.current i)) → (Makes t.draft i → c ≡ entry (made_kids_of t.draft i))
      → (v : Fiber) × (s : Option ℕ) × Linked t i v c s
  by_child c (inl h) c1 c2 =
      let (u, is, l) = linked.list i h in
      (u, first (rest_of t.current i), linked_current t fits linked i u c _ h (sym is) (c1 h) refl)
  by_child c (inr m) c1 c2 =
      let p = stands t.draft i m in
      let l = (is-at t fits p.around i p.value p.old p.kids p.rest p.here).list in
      (p.value, entry (made_rest_of t.draft i), linked_made t fits linked i p.value c _ m (rw l refl) (c2 m) refl)

  -- by its sibling link
  pub by_sibling : (s : Option ℕ) → IsIn t i → (Holds t.current i → s ≡ first (rest_of t.current i)) → (Makes t.draft i → s ≡ entry (made_rest_of t.draft i))
      → (v : Fiber) × (c : Option ℕ) × Linked t i v c s
  by_sibling s (inl h) s1 s2 =
      let (u, is, l) = linked.list i h in
      (u, first (kids_of t.current i), linked_current t fits linked i u _ s h (sym is) refl (s1 h))
  by_sibling s (inr m) s1 s2 =
      let p = stands t.draft i m in
      let l = (is-at t fits p.around i p.value p.old p.kids p.rest p.here).list in
      (p.value, entry (made_kids_of t.draft i), linked_made t fits linked i p.value _ s m (rw l refl) refl (s2 m))

  -- by its value and its child link
  pub with_sibling : (v : Fiber) (c : Option ℕ) → IsIn t i
      → (Holds t.current i → Some v ≡ value_of t.current i) → (Makes t.draft i → Some v ≡ made_value_of t.draft i)
      → (Holds t.current i → c ≡ first (kids_of t.current i)) → (Makes t.draft i → c ≡ entry (made_kids_of t.draft i))
      → (s : Option ℕ) × Linked t i v c s
  with_sibling v c (inl h) v1 v2 c1 c2 = (first (rest_of t.current i), linked_current t fits linked i v c _ h (v1 h) (c1 h) refl)
  with_sibling v c (inr m) v1 v2 c1 c2 = (entry (made_rest_of t.draft i), linked_made t fits linked i v c _ m (v2 m) (c2 m) refl)

-- two links to its siblings lead to the same list
pub same_rest : (t : Trees Fiber) (i : ℕ) (u v : Fiber) (b c r s : Option ℕ) → Linked t i u b r → Linked t i v c s → list_of t r ≡ list_of t s
same_rest t i u v b c r s k l = let q : fiber i u (list_of t b) (list_of t r) ≡ fiber i v (list_of t c) (list_of t s) = sym k.list ∙ l.list in cc

-- The roots

pub from_draft : (t : Trees Fiber) → Fits t → IsLinked t.current → (r : Option ℕ) → r ≡ entry t.draft → (list_of t r ≡ grafted t.draft) × IfSome r (IsIn t)
from_draft t fits linked r e = subst (λ o. (list_of t o ≡ grafted t.draft) × IfSome o (IsIn t)) (sym e) (list_of_entry t fits linked top t.draft refl)

pub from_current : (t : Trees Fiber) → IsLinked t.current → (r : Option ℕ) → r ≡ first t.current → (list_of t r ≡ t.current) × IfSome r (IsIn t)
from_current t linked r e = subst (λ o. (list_of t o ≡ t.current) × IfSome o (IsIn t)) (sym e) (list_of_first t t.current (sym linked.root))
