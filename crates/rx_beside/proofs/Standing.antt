-- A made fiber beside the current one that it was made for.
use Rattle.std.proofs.Common.{◌≡◌, ◌⊎◌, inl, inr, ℕ, ◌<◌, ◌≤◌, true, false, refl, sym, ap, ◌∙◌, subst, arith, eqb, cond, Bool, is_some, Option, Some, None, IfSome}
use Rattle.rx_elem.specs.Trees.{Mark, Node, node, forest, shows_fallback}
use Rattle.rx_elem.specs.Trees as trees
use Rattle.rx_lists.specs.Shapes.{Shape, none, fiber, first, size, Holds}
use Rattle.rx_links.specs.Drafts.{Draft, taken, made, Trees, clone_of, entry, or_else, Makes, Fits, Follows, HasTop, IsOldKids, kids_of, kids_under, old_of, old_kids, grafted}
use Rattle.rx_links.specs.Places.{Around, top, below, after, placed}
use Rattle.rx_links.specs.Readers.{rest_of, value_of, IsIn, IsLinked, made_kids_of, made_rest_of, made_value_of}
use Rattle.rx_links.proofs.Placed.{is-at}
use Rattle.rx_fiber.specs.Fibers.{Fiber, begun}
use Rattle.rx_fiber.proofs.OldLists.{IsListIn, rest_listed, kids_are}
use Rattle.rx_fiber.proofs.OldReads.{kids_held}
use Rattle.rx_lists.proofs.Frames.{some-at}
use Rattle.rx_read.specs.Lists.{list_of}
use Rattle.rx_read.specs.Numbering.{made_entry}
use Rattle.rx_read.specs.Places.{mark_in, places_in, first_node}
use Rattle.rx_read.proofs.Links.{Stands, stands, list_of_current, list_of_first, list_of_made, list_of_entry, old_listed, taken_held}
use Rattle.rx_read.proofs.Relisted.{child_in}

-- Where a made fiber stands

follows_down : (c : Shape Fiber) → IsLinked c → (k : Around Fiber) (p : ℕ) (v : Fiber) (o : Option ℕ) (ks rs : Draft Fiber) → Follows c (placed k (made p v o ks rs))
    → (s : Shape Fiber) × IsListIn c s × Follows s (made p v o ks rs)
follows_down c linked top p v o ks rs f = (c, sym linked.root, f)
follows_down c linked (below id u q es k) p v o ks rs f =
    let (s, l, g) = follows_down c linked k id u q (made p v o ks rs) es f in by_kids s l g.0.0 g.0.1 g.0.2
  where
    by_kids : (s : Shape Fiber) → IsListIn c s → (m : Shape Fiber) → IsOldKids s q m → (made p v o ks rs ≡ taken m) ⊎ Follows m (made p v o ks rs)
        → (s : Shape Fiber) × IsListIn c s × Follows s (made p v o ks rs)
    by_kids s l m h (inl e) = cc
    by_kids s l m h (inr g) = (m, old_listed c s q m linked h l, g)
follows_down c linked (after id u q ls k) p v o ks rs f = let (s, l, g) = follows_down c linked k id u q ls (made p v o ks rs) f in (s, l, g.1)

-- the children that a fiber at the top of a list of the tree has are those in the tree
top_kids : (c s : Shape Fiber) (j : ℕ) (k : Shape Fiber) → IsLinked c → HasTop s j k → IsListIn c s → kids_of c j ≡ k
top_kids c none j k linked h l = absurd h
top_kids c (fiber id v ks rs) j k linked (inl h) l = sym (ap (kids_of c) h.0) ∙ kids_are c id v ks rs linked l ∙ h.1
top_kids c (fiber id v ks rs) j k linked (inr h) l = top_kids c rs j k linked h (rest_listed c id v ks rs linked l)

-- the children that an old fiber of a list has are those in the tree
under_is : (c s : Shape Fiber) (o : Option ℕ) (k : Shape Fiber) → IsLinked c → IsOldKids s o k → IsListIn c s → kids_under c o ≡ k
under_is c s None k linked h l = sym h
under_is c s (Some j) k linked h l = top_kids c s j k linked h l

-- a made fiber with the children of the current one that it is for: its own are these, taken over, or were made beside them
pub record Beside (t : Trees Fiber) (p : ℕ) : Type 0 where
  pub at : Stands t.draft p
  pub from : (at.kids ≡ taken (old_kids t p)) ⊎ Follows (old_kids t p) at.kids
  pub kids : made_kids_of t.draft p ≡ at.kids
  pub leads : list_of t (entry at.kids) ≡ grafted at.kids
  pub list : list_of t (Some p) ≡ fiber p at.value (grafted at.kids) (grafted at.rest)
  pub value : made_value_of t.draft p ≡ Some at.value

module _ (t : Trees Fiber) (fits : Fits t) (linked : IsLinked t.current) where
  pub beside_at : (p : ℕ) → Makes t.draft p → Beside t p
  beside_at p m =
      let s = stands t.draft p m in
      let at = is-at t fits s.around p s.value s.old s.kids s.rest s.here in
      let (c, l, f) = follows_down t.current linked s.around p s.value s.old s.kids s.rest (subst (Follows t.current) s.here fits.follows) in
      let under : old_kids t p ≡ f.0.0 = ap (kids_under t.current) at.old ∙ under_is t.current c s.old f.0.0 linked f.0.1 l in
      let here = at.list in
      let kids = list_of_entry t fits linked (below p s.value s.old s.rest s.around) s.kids s.here in
      record {
        at = s;
        from = subst (λ k. (s.kids ≡ taken k) ⊎ Follows k s.kids) (sym under) f.0.2;
        kids = rw here refl;
        leads = kids.0;
        list = list_of_made t p (made p s.value s.old s.kids s.rest) fits m here;
        value = rw here refl;
      }

  -- the next sibling of a made fiber is made too
  pub rest_made : (i : ℕ) → Makes t.draft i → (o : Option ℕ) → o ≡ entry (made_rest_of t.draft i) → IfSome o (Makes t.draft)
  rest_made i m o e =
      let s = stands t.draft i m in
      let here = (is-at t fits s.around i s.value s.old s.kids s.rest s.here).list in
      let (c, l, f) = follows_down t.current linked s.around i s.value s.old s.kids s.rest (subst (Follows t.current) s.here fits.follows) in
      let q : made_rest_of t.draft i ≡ s.rest = rw here refl in
      by_rest c s.rest (after i s.value s.old s.kids s.around) s.here f.1 (e ∙ ap entry q)
    where
      by_rest : (c : Shape Fiber) (d : Draft Fiber) (k : Around Fiber) → t.draft ≡ placed k d → Follows c d → o ≡ entry d → IfSome o (Makes t.draft)
      by_rest c (taken s) k h f e = subst (λ o. IfSome o (Makes t.draft)) (sym (e ∙ ap first f)) tt
      by_rest c (made j u b ks rs) k h f e = subst (λ o. IfSome o (Makes t.draft)) (sym e) (is-at t fits k j u b ks rs h).makes

  pub old_held : (p : ℕ) → Makes t.draft p → (j : ℕ) → old_of t.draft p ≡ Some j → Holds t.current j
  old_held p m j e =
      let s = stands t.draft p m in
      let at = is-at t fits s.around p s.value s.old s.kids s.rest s.here in
      some-at s.old (Holds t.current) j at.old_held (sym at.old ∙ e)

  -- the first child of the alternate leads to the old children
  pub old_leads : (p : ℕ) → Makes t.draft p → (j : ℕ) → old_of t.draft p ≡ Some j → (o : Option ℕ) → (Holds t.current j → o ≡ first (kids_of t.current j)) → list_of t o ≡ old_kids t p
  old_leads p m j e o is =
      let held = old_held p m j e in
      ap (list_of t) (is held) ∙ (list_of_first t (kids_of t.current j) (sym (linked.kids j held))).0 ∙ ap (kids_under t.current) (sym e)

-- The nodes of the two

pub begun_node : (v : Fiber) (m : Mark) (id : ℕ) (ks rs : Shape Fiber) → v.stage ≡ begun m → shows_fallback m ≡ false
    → first_node (fiber id v ks rs) ≡ Some (node v.element m (forest (places_in 0 ks)) trees.none)
begun_node v m id ks rs e h = let k : mark_in v.stage ≡ Some m = ap mark_in e in rw (k, h) refl

-- The node of a made fiber that is not hidden has the children that it was made or took over.
pub new_node : (t : Trees Fiber) (p : ℕ) → (b : Beside t p) → (v : Fiber) → Some v ≡ made_value_of t.draft p → (m : Mark) → v.stage ≡ begun m → shows_fallback m ≡ false
    → first_node (list_of t (Some p)) ≡ Some (node v.element m (forest (places_in 0 (grafted (made_kids_of t.draft p)))) trees.none)
new_node t p b v value m e h =
    let same : v ≡ b.at.value = (let q : Some v ≡ Some b.at.value = value ∙ b.value in cc) in
    subst (λ u. first_node (list_of t (Some p)) ≡ Some (node u.element m (forest (places_in 0 (grafted (made_kids_of t.draft p)))) trees.none)) (sym same)
    (ap first_node b.list
    ∙ begun_node b.at.value m p (grafted b.at.kids) (grafted b.at.rest) (sym (ap (λ u. u.stage) same) ∙ e) h
    ∙ ap (λ d. Some (node b.at.value.element m (forest (places_in 0 (grafted d))) trees.none)) (sym b.kids))

-- That of its alternate has those that it had.
pub old_node : (t : Trees Fiber) → IsLinked t.current → (p j : ℕ) → old_of t.draft p ≡ Some j → Holds t.current j → (u : Fiber) → Some u ≡ value_of t.current j
    → (m : Mark) → u.stage ≡ begun m → shows_fallback m ≡ false
    → first_node (list_of t (Some j)) ≡ Some (node u.element m (forest (places_in 0 (old_kids t p))) trees.none)
old_node t linked p j is held u value m e h =
    let (w, at, l) = linked.list j held in
    let same : w ≡ u = (let q : Some w ≡ Some u = sym at ∙ sym value in cc) in
    ap first_node (list_of_current t j held ∙ l ∙ ap (λ f. fiber j f (kids_of t.current j) (rest_of t.current j)) same)
    ∙ begun_node u m j (kids_of t.current j) (rest_of t.current j) e h
    ∙ ap (λ o. Some (node u.element m (forest (places_in 0 (kids_under t.current o))) trees.none)) (sym is)

-- Children that were taken over

taken_by : (d : Draft Fiber) (k : Shape Fiber) → (d ≡ taken k) ⊎ Follows k d → is_some (entry d) ≡ true → is_some (made_entry d) ≡ false → d ≡ taken k
taken_by d k (inl e) h n = e
taken_by (taken s) k (inr f) h n = let q : first s ≡ None = ap first f in let z : is_some (first s) ≡ false = ap is_some q in cc
taken_by (made i v o ks rs) k (inr f) h n = cc

made_by : (t : Trees Fiber) (d : Draft Fiber) → list_of t (entry d) ≡ grafted d → is_some (made_entry d) ≡ true → list_of t (made_entry d) ≡ grafted d
made_by t (taken s) e h = cc
made_by t (made i v o ks rs) e h = e

none_by : (t : Trees Fiber) (d : Draft Fiber) → is_some (entry d) ≡ false → list_of t (made_entry d) ≡ grafted d
none_by t (taken none) e = refl
none_by t (taken (fiber i v ks rs)) e = cc
none_by t (made i v o ks rs) e = cc

lower_by : (t : Trees Fiber) (d : Draft Fiber) → list_of t (entry d) ≡ grafted d → size (list_of t (made_entry d)) ≤ size (grafted d)
lower_by t (taken s) e = omega arith
lower_by t (made i v o ks rs) e = let q = ap size e in omega arith

module _ (t : Trees Fiber) (p : ℕ) (b : Beside t p) where
  pub took_over : is_some (entry (made_kids_of t.draft p)) ≡ true → is_some (made_entry (made_kids_of t.draft p)) ≡ false → made_kids_of t.draft p ≡ taken (old_kids t p)
  took_over h n =
      b.kids ∙ taken_by b.at.kids (old_kids t p) b.from (ap (λ d. is_some (entry d)) (sym b.kids) ∙ h) (ap (λ d. is_some (made_entry d)) (sym b.kids) ∙ n)

  pub made_some : is_some (made_entry (made_kids_of t.draft p)) ≡ true → list_of t (made_entry (made_kids_of t.draft p)) ≡ grafted (made_kids_of t.draft p)
  made_some h =
      subst (λ d. list_of t (made_entry d) ≡ grafted d) (sym b.kids) (made_by t b.at.kids b.leads (ap (λ d. is_some (made_entry d)) (sym b.kids) ∙ h))

  pub made_none : is_some (entry (made_kids_of t.draft p)) ≡ false → list_of t (made_entry (made_kids_of t.draft p)) ≡ grafted (made_kids_of t.draft p)
  made_none h = none_by t (made_kids_of t.draft p) h

  -- the list of the made children has fewer fibers
  pub made_lower : (o : Option ℕ) → o ≡ made_entry (made_kids_of t.draft p) → size (list_of t o) < size (list_of t (Some p))
  made_lower o e =
      let l = lower_by t b.at.kids b.leads in
      let q : size (list_of t o) ≡ size (list_of t (made_entry b.at.kids)) = ap (λ o. size (list_of t o)) (e ∙ ap made_entry b.kids) in
      let all = ap size b.list in
      omega arith

-- A child whose alternate is current

either : {P : Type 0} (a b : Option ℕ) (i : ℕ) → (a ≡ Some i → P) → (b ≡ Some i → P) → or_else a b ≡ Some i → P
either None b i f g e = g e
either (Some x) b i f g e = f e

clone_makes : (w : Draft Fiber) (j i : ℕ) → clone_of w j ≡ Some i → Makes w i
clone_makes (taken s) j i e = absurd (let f : ⊥ = cc in f)
clone_makes (made id v None ks rs) j i e = either (clone_of ks j) (clone_of rs j) i (λ q. inr (inl (clone_makes ks j i q))) (λ q. inr (inr (clone_makes rs j i q))) e
clone_makes (made id v (Some o) ks rs) j i e = go (eqb o j) e (clone_makes ks j i) (clone_makes rs j i)
  where
    go : (b : Bool) → cond b (Some id) (or_else (clone_of ks j) (clone_of rs j)) ≡ Some i → (clone_of ks j ≡ Some i → Makes ks i) → (clone_of rs j ≡ Some i → Makes rs i)
        → Makes (made id v (Some o) ks rs) i
    go true q f g = let same : id ≡ i = cc in inl (sym same)
    go false q f g = either (clone_of ks j) (clone_of rs j) i (λ q. inr (inl (f q))) (λ q. inr (inr (g q))) q

-- it was made: that of a current one is none that is current
pub is_made : (t : Trees Fiber) → Fits t → (i j : ℕ) → IsIn t i → Holds t.current j → (Holds t.current i → clone_of t.draft i ≡ Some j) → Makes t.draft i
is_made t fits i j (inr m) held f = m
is_made t fits i j (inl h) held f = absurd (fits.apart j held (clone_makes t.draft i j (f h)))

-- a first child that is made is the first of those that are made
pub made_first : (t : Trees Fiber) → Fits t → IsLinked t.current → (p : ℕ) (b : Beside t p) (i : ℕ) → Some i ≡ entry (made_kids_of t.draft p) → Makes t.draft i
    → Some i ≡ made_entry (made_kids_of t.draft p)
made_first t fits linked p b i e m = by_kids b.at.kids b.at.here (e ∙ ap entry b.kids) ∙ ap made_entry (sym b.kids)
  where
    by_kids : (d : Draft Fiber) → t.draft ≡ placed b.at.around (made p b.at.value b.at.old d b.at.rest) → Some i ≡ entry d → Some i ≡ made_entry d
    by_kids (taken s) here q =
        absurd (fits.apart i (some-at (first s) (Holds t.current) i (taken_held t fits linked (below p b.at.value b.at.old b.at.rest b.at.around) s here) (sym q)) m)
    by_kids (made j v o ks rs) here q = q

-- the first children of a made fiber and of its alternate, if the one's alternate is the other: the one is made, and the other current
pub below_made : (t : Trees Fiber) → Fits t → IsLinked t.current → (p : ℕ) → Makes t.draft p → (o : ℕ) → old_of t.draft p ≡ Some o → (i j : ℕ)
    → Some j ≡ first (kids_of t.current o) → Some i ≡ entry (made_kids_of t.draft p) → (Holds t.current i → clone_of t.draft i ≡ Some j) → Holds t.current j × Makes t.draft i
below_made t fits linked p m o for i j old new current =
    let held = some-at (first (kids_of t.current o)) (Holds t.current) j (kids_held t.current linked o (old_held t fits linked p m o for)) (sym old) in
    (held, is_made t fits i j (child_in t fits linked p m i new) held current)
