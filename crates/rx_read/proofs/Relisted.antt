-- Numbers at a place of the tree in progress.
use Rattle.std.proofs.Common.{◌≡◌, ◌⊎◌, inl, inr, ℕ, ◌<◌, Bool, true, false, eqb, eq-eqb, refl, sym, ap, ◌∙◌, subst, arith, Option, Some, None, IfSome}
use Rattle.rx_elem.specs.Numbers.{Numbers}
use Rattle.rx_lists.specs.Shapes.{Shape, none, fiber, first, Holds}
use Rattle.rx_lists.proofs.Frames.{same_or_not, eqb-false}
use Rattle.rx_links.specs.Drafts.{Draft, taken, made, Trees, entry, Makes, IsMadeOnce, IsMadeList, Fits, Follows, made_size, valued}
use Rattle.rx_links.specs.Places.{Around, top, below, after, placed, IsAt}
use Rattle.rx_links.specs.Readers.{IsLinked, IsIn, parent_in, parent_of, made_value_of, made_kids_of, made_rest_of, made_parent_of}
use Rattle.rx_links.proofs.Placed.{MakesAround, placed-apart, is-at}
use Rattle.rx_fiber.specs.Fibers.{Fiber}
use Rattle.rx_read.specs.Numbering.{numbered_fiber, numbered_draft, numbered_first, made_from, relisted, relisted_from, made_entry, AreHeld}
use Rattle.rx_read.proofs.Links.{Stands, stands, list_of_entry, taken_held}
use Rattle.rx_read.proofs.Growing.{own_held}

-- A list that is changed at its place

relisted-absent : (p : ℕ) (f : Draft Fiber → Draft Fiber) (w : Draft Fiber) → (Makes w p → ⊥) → relisted p f w ≡ w
relisted-absent p f (taken s) n = refl
relisted-absent p f (made id v o ks rs) n =
    rw (eqb-false id p (λ e. n (inl (sym e))), relisted-absent p f ks (λ x. n (inr (inl x))), relisted-absent p f rs (λ x. n (inr (inr x)))) refl

relisted-placed : (p : ℕ) (f : Draft Fiber → Draft Fiber) (k : Around Fiber) (d : Draft Fiber) → (MakesAround k p → ⊥) → relisted p f (placed k d) ≡ placed k (relisted p f d)
relisted-placed p f top d n = refl
relisted-placed p f (below id v o rs k) d n =
    relisted-placed p f k (made id v o d rs) (λ m. n (inr (inr m)))
    ∙ rw (eqb-false id p (λ e. n (inl (sym e))), relisted-absent p f rs (λ m. n (inr (inl m)))) refl
relisted-placed p f (after id v o ks k) d n =
    relisted-placed p f k (made id v o ks d) (λ m. n (inr (inr m)))
    ∙ rw (eqb-false id p (λ e. n (inl (sym e))), relisted-absent p f ks (λ m. n (inr (inl m)))) refl

relisted-here : (f : Draft Fiber → Draft Fiber) (k : Around Fiber) (p : ℕ) (v : Fiber) (o : Option ℕ) (ks rs : Draft Fiber) → IsMadeOnce (placed k (made p v o ks rs))
    → relisted p f (placed k (made p v o ks rs)) ≡ placed k (f (made p v o ks rs))
relisted-here f k p v o ks rs h =
    relisted-placed p f k (made p v o ks rs) (placed-apart k (made p v o ks rs) h p (inl refl)) ∙ rw (eq-eqb p p refl) refl

pub relisted_at : (t : Trees Fiber) → Fits t → (f : Draft Fiber → Draft Fiber) (k : Around Fiber) (p : ℕ) (v : Fiber) (o : Option ℕ) (ks rs : Draft Fiber)
    → t.draft ≡ placed k (made p v o ks rs) → relisted p f t.draft ≡ placed k (f (made p v o ks rs))
relisted_at t fits f k p v o ks rs e = ap (relisted p f) e ∙ relisted-here f k p v o ks rs (subst IsMadeOnce e fits.made_once)

-- What follows a made fiber is made

abbrev HasMadeRests : Draft Fiber → Type 0
HasMadeRests (taken s) = Unit {0}
HasMadeRests (made id v o ks rs) = HasMadeRests ks × IsMadeList rs × HasMadeRests rs

pub follows_made : (c : Shape Fiber) (w : Draft Fiber) → Follows c w → IsMadeList w
follows_made c (taken s) f = f
follows_made c (made id v o ks rs) f = follows_made c rs f.1

follows_rests : (c : Shape Fiber) (w : Draft Fiber) → Follows c w → HasMadeRests w
follows_rests c (taken s) f = tt
follows_rests c (made id v o ks rs) (k, f) = (by_kids k.0 k.2 (λ g. follows_rests k.0 ks g), follows_made c rs f, follows_rests c rs f)
  where
    by_kids : (k : Shape Fiber) → (ks ≡ taken k) ⊎ Follows k ks → (Follows k ks → HasMadeRests ks) → HasMadeRests ks
    by_kids k (inl e) g = subst HasMadeRests (sym e) tt
    by_kids k (inr f) g = g f

rests_placed : (k : Around Fiber) (d : Draft Fiber) → HasMadeRests (placed k d) → HasMadeRests d
rests_placed top d h = h
rests_placed (below id v o rs k) d h = let q = rests_placed k (made id v o d rs) h in q.0
rests_placed (after id v o ks k) d h = let q = rests_placed k (made id v o ks d) h in q.2

rest_made : (t : Trees Fiber) → Fits t → (k : Around Fiber) (p : ℕ) (v : Fiber) (o : Option ℕ) (ks rs : Draft Fiber) → t.draft ≡ placed k (made p v o ks rs) → IsMadeList rs
rest_made t fits k p v o ks rs e =
    let q = rests_placed k (made p v o ks rs) (subst HasMadeRests e (follows_rests t.current t.draft fits.follows)) in
    q.1

made_link : (w : Draft Fiber) → IsMadeList w → entry w ≡ made_entry w
made_link (taken s) e = ap first e
made_link (made id v o ks rs) e = refl

-- A list of made fibers at its place

-- what stands at a made link, and what becomes of it when it is numbered
pub record ListHere (t : Trees Fiber) (k : Around Fiber) (d : Draft Fiber) (next : Numbers) : Type 0 where
  pub makes : IfSome (made_entry d) (Makes t.draft)
  pub numbers : (numbered_draft next (made_from t.draft (made_entry d))).0 ≡ (numbered_draft next d).0
  pub draft : relisted_from (made_entry d) (λ d. (numbered_draft next d).1) t.draft ≡ placed k (numbered_draft next d).1
  pub size : made_size (made_from t.draft (made_entry d)) ≡ made_size d

pub list_here : (t : Trees Fiber) → Fits t → (k : Around Fiber) (d : Draft Fiber) (next : Numbers) → t.draft ≡ placed k d → ListHere t k d next
list_here t fits k (taken s) next e = record { makes = tt; numbers = refl; draft = e; size = refl }
list_here t fits k (made id v o ks rs) next e =
    let at = is-at t fits k id v o ks rs e in
    let l = at.list in
    record {
      makes = at.makes;
      numbers = rw l refl;
      draft = relisted_at t fits (λ d. (numbered_draft next d).1) k id v o ks rs e;
      size = rw l refl;
    }

-- One fiber

module _ (t : Trees Fiber) (fits : Fits t) (i : ℕ) (m : Makes t.draft i) where
  abbrev pub spot : Stands t.draft i
  spot = stands t.draft i m

  pub spot_at : IsAt t spot.around i spot.value spot.old spot.kids spot.rest
  spot_at = is-at t fits spot.around i spot.value spot.old spot.kids spot.rest spot.here

  pub spot_list : made_from t.draft (Some i) ≡ made i spot.value spot.old spot.kids spot.rest
  spot_list = let l = spot_at.list in rw l refl

  pub spot_value : Some spot.value ≡ made_value_of t.draft i
  spot_value = let l = spot_at.list in rw l refl

  value_one : (v : Fiber) → Some v ≡ made_value_of t.draft i → v ≡ spot.value
  value_one v e = let q : Some v ≡ Some spot.value = e ∙ sym spot_value in cc

  pub valued_spot : (f : Fiber → Fiber) → valued i f t.draft ≡ placed spot.around (made i (f spot.value) spot.old spot.kids spot.rest)
  valued_spot f = spot_at.value f

  -- a value that stays
  pub value_kept : (f : Fiber → Fiber) (v : Fiber) → Some v ≡ made_value_of t.draft i → f v ≡ v → t.draft ≡ valued i f t.draft
  value_kept f v e q =
      let is = value_one v e in
      spot.here
      ∙ ap (λ u. placed spot.around (made i u spot.old spot.kids spot.rest)) (sym (subst (λ u. f u ≡ u) is q))
      ∙ sym (valued_spot f)

  -- two changes that change the value alike
  pub value_alike : (f g : Fiber → Fiber) (v : Fiber) → Some v ≡ made_value_of t.draft i → f v ≡ g v → valued i f t.draft ≡ valued i g t.draft
  value_alike f g v e q =
      let is = value_one v e in
      valued_spot f
      ∙ ap (λ u. placed spot.around (made i u spot.old spot.kids spot.rest)) (subst (λ u. f u ≡ g u) is q)
      ∙ sym (valued_spot g)

  pub own_room : (next : Numbers) → AreHeld (numbered_first next (made_from t.draft (Some i))).0
      → (v : Fiber) → Some v ≡ made_value_of t.draft i → AreHeld (numbered_fiber next v).0
  own_room next h v e =
      let l = spot_list in
      let is = value_one v e in
      subst (λ u. AreHeld (numbered_fiber next u).0) (sym is) (own_held next spot.value spot.kids (subst (λ d. AreHeld (numbered_first next d).0) l h))

-- The children of a fiber

parent_held : (p : Option ℕ) (c : Shape Fiber) (i q : ℕ) → parent_in p c i ≡ Some q → (p ≡ Some q) ⊎ Holds c q
parent_held p none i q e = cc
parent_held p (fiber id v ks rs) i q e =
    by_test (eqb id i) refl (parent_in (Some id) ks i) refl (λ f. parent_held (Some id) ks i q f) (λ f. parent_held p rs i q f)
  where
    by_test : (b : Bool) → eqb id i ≡ b → (x : Option ℕ) → parent_in (Some id) ks i ≡ x → (parent_in (Some id) ks i ≡ Some q → (Some id ≡ Some q) ⊎ Holds ks q)
        → (parent_in p rs i ≡ Some q → (p ≡ Some q) ⊎ Holds rs q) → (p ≡ Some q) ⊎ Holds (fiber id v ks rs) q
    by_test true b x y f g = inl (rw b at e)
    by_test false b None y f g = elim (g (rw (b, y) at e)) [ inl z ↦ inl z | inr z ↦ inr (inr (inr z)) ]
    by_test false b (Some r) y f g =
        let w : Some r ≡ Some q = rw (b, y) at e in
        elim (f (y ∙ w)) [ inl z ↦ inr (inl (let a : id ≡ q = cc in sym a)) | inr z ↦ inr (inr (inl z)) ]

-- a current fiber has no made parent
pub not_parent : (t : Trees Fiber) → Fits t → (i j : ℕ) → Makes t.draft i → parent_of t.current j ≡ Some i → ⊥
not_parent t fits i j m e = elim (parent_held None t.current j i e) [ inl z ↦ cc | inr z ↦ fits.apart i z m ]

module _ (t : Trees Fiber) (fits : Fits t) (linked : IsLinked t.current) (i : ℕ) (m : Makes t.draft i) where
  abbrev p : Stands t.draft i
  p = stands t.draft i m

  kids_at : made_kids_of t.draft i ≡ p.kids
  kids_at = let l = (is-at t fits p.around i p.value p.old p.kids p.rest p.here).list in rw l refl

  -- what the parent of its first child tells
  pub child_in : (child : ℕ) → Some child ≡ entry (made_kids_of t.draft i) → IsIn t child
  child_in child e =
      let l = list_of_entry t fits linked (below i p.value p.old p.rest p.around) p.kids p.here in
      by_entry (entry p.kids) (e ∙ ap entry kids_at) l.1
    where
      by_entry : (o : Option ℕ) → Some child ≡ o → IfSome o (IsIn t) → IsIn t child
      by_entry None q h = cc
      by_entry (Some j) q h = let s : j ≡ child = cc in subst (IsIn t) s h

  pub no_child : None ≡ entry (made_kids_of t.draft i) → None ≡ made_entry (made_kids_of t.draft i)
  no_child e = by_kids (made_kids_of t.draft i) e
    where
      by_kids : (d : Draft Fiber) → None ≡ entry d → None ≡ made_entry d
      by_kids (taken s) q = refl
      by_kids (made jd u o ks rs) q = cc

  -- the parent of a first child: this fiber if the child is made
  pub child_is : (child : ℕ) (parent : Option ℕ) → Some child ≡ entry (made_kids_of t.draft i)
      → (Holds t.current child → parent ≡ parent_of t.current child) → (Makes t.draft child → parent ≡ made_parent_of t.draft child)
      → ((parent ≡ Some i) × (Some child ≡ made_entry (made_kids_of t.draft i)) × Makes t.draft child)
      ⊎ ((parent ≡ Some i → ⊥) × (None ≡ made_entry (made_kids_of t.draft i)))
  child_is child parent e a b = subst (λ d. ((parent ≡ Some i) × (Some child ≡ made_entry d) × Makes t.draft child) ⊎ ((parent ≡ Some i → ⊥) × (None ≡ made_entry d))) (sym kids_at)
      (by_kids p.kids p.here (e ∙ ap entry kids_at))
    where
      by_kids : (d : Draft Fiber) → t.draft ≡ placed p.around (made i p.value p.old d p.rest) → Some child ≡ entry d
          → ((parent ≡ Some i) × (Some child ≡ made_entry d) × Makes t.draft child) ⊎ ((parent ≡ Some i → ⊥) × (None ≡ made_entry d))
      by_kids (taken s) here q =
          inr (held_case (first s) q (taken_held t fits linked (below i p.value p.old p.rest p.around) s here), refl)
        where
          held_case : (o : Option ℕ) → Some child ≡ o → IfSome o (Holds t.current) → parent ≡ Some i → ⊥
          held_case None q h r = cc
          held_case (Some j) q h r =
              let same : j ≡ child = cc in not_parent t fits i child m (sym (a (subst (Holds t.current) same h)) ∙ r)
      by_kids (made jd u o ks rs) here q =
          let at = is-at t fits (below i p.value p.old p.rest p.around) jd u o ks rs here in
          let same : jd ≡ child = cc in
          inl (b (subst (Makes t.draft) same at.makes) ∙ subst (λ j. made_parent_of t.draft j ≡ Some i) same at.parent, q, subst (Makes t.draft) same at.makes)

module _ (t : Trees Fiber) (fits : Fits t) (linked : IsLinked t.current) (i : ℕ) (m : Makes t.draft i) (child : ℕ) (leads : Some child ≡ entry (made_kids_of t.draft i)) where
  -- it is made, if this fiber is its parent
  pub child_made : (parent : ℕ) → (Holds t.current child → Some parent ≡ parent_of t.current child) → (Makes t.draft child → Some parent ≡ made_parent_of t.draft child)
      → eqb parent i ≡ true → (Some child ≡ made_entry (made_kids_of t.draft i)) × Makes t.draft child
  child_made parent a b e =
      elim (child_is t fits linked i m child (Some parent) leads a b) [
        | inl z ↦ (z.1, z.2)
        | inr z ↦ absurd (z.0 (ap Some (is_same parent e)))
      ]
    where
      is_same : (parent : ℕ) → eqb parent i ≡ true → parent ≡ i
      is_same parent e = elim (same_or_not parent i) [ inl z ↦ z | inr n ↦ let f = eqb-false parent i n in cc ]

  -- and was taken over, if another is
  pub child_taken : (parent : Option ℕ) → (Holds t.current child → parent ≡ parent_of t.current child) → (Makes t.draft child → parent ≡ made_parent_of t.draft child)
      → (parent ≡ Some i → ⊥) → None ≡ made_entry (made_kids_of t.draft i)
  child_taken parent a b n = elim (child_is t fits linked i m child parent leads a b) [ inl z ↦ absurd (n z.0) | inr z ↦ z.1 ]

-- two fibers are not the same
pub not_same : (p i : ℕ) → eqb p i ≡ false → Some p ≡ Some i → ⊥
not_same p i e q = let z : p ≡ i = cc in let f = eq-eqb p i z in cc

-- The root

module _ (t : Trees Fiber) (fits : Fits t) (next : Numbers) (root : Option ℕ) (leads : root ≡ entry t.draft) where
  at_root : root ≡ made_entry t.draft
  at_root = leads ∙ made_link t.draft (follows_made t.current t.draft fits.follows)

  root_here : ListHere t top t.draft next
  root_here = list_here t fits top t.draft next refl

  pub root_makes : IfSome root (Makes t.draft)
  root_makes = subst (λ o. IfSome o (Makes t.draft)) (sym at_root) root_here.makes

  pub root_numbers : (numbered_draft next (made_from t.draft root)).0 ≡ (numbered_draft next t.draft).0
  root_numbers = ap (λ o. (numbered_draft next (made_from t.draft o)).0) at_root ∙ root_here.numbers

  pub root_draft : relisted_from root (λ d. (numbered_draft next d).1) t.draft ≡ (numbered_draft next t.draft).1
  root_draft = ap (λ o. relisted_from o (λ d. (numbered_draft next d).1) t.draft) at_root ∙ root_here.draft

two : (t2 t : Trees Fiber) (w : Draft Fiber) → t2.current ≡ t.current → t2.draft ≡ w → t2 ≡ record t { draft = w }
two t2 t w p e = λ j. record { current = p j; draft = e j }

-- A fiber is numbered, and what is made below it

module _ (t t1 : Trees Fiber) (fits : Fits t) (fits1 : Fits t1) (i : ℕ) (m : Makes t.draft i) (next n1 : Numbers)
    (value : t1 ≡ record t { draft = valued i (λ v. (numbered_fiber next v).1) t.draft })
    (number : (v : Fiber) → Some v ≡ made_value_of t.draft i → n1 ≡ (numbered_fiber next v).0) where
  abbrev q : Stands t.draft i
  q = stands t.draft i m

  fiber_here : t1.draft ≡ placed q.around (made i (numbered_fiber next q.value).1 q.old q.kids q.rest)
  fiber_here = ap (λ t. t.draft) value ∙ valued_spot t fits i m (λ v. (numbered_fiber next v).1)

  fiber_at : IsAt t1 q.around i (numbered_fiber next q.value).1 q.old q.kids q.rest
  fiber_at = is-at t1 fits1 q.around i (numbered_fiber next q.value).1 q.old q.kids q.rest fiber_here

  number_is : n1 ≡ (numbered_fiber next q.value).0
  number_is = number q.value (spot_value t fits i m)

  pub still_made : Makes t1.draft i
  still_made = fiber_at.makes

  kids_same : made_kids_of t1.draft i ≡ q.kids
  kids_same = let l = fiber_at.list in rw l refl

  module _ (child : Option ℕ) (leads : child ≡ made_entry (made_kids_of t1.draft i)) where
    leads_to : child ≡ made_entry q.kids
    leads_to = leads ∙ ap made_entry kids_same

    below_here : ListHere t1 (below i (numbered_fiber next q.value).1 q.old q.rest q.around) q.kids n1
    below_here = list_here t1 fits1 (below i (numbered_fiber next q.value).1 q.old q.rest q.around) q.kids n1 fiber_here

    below_numbers : (numbered_draft n1 (made_from t1.draft child)).0 ≡ (numbered_first next (made_from t.draft (Some i))).0
    below_numbers =
        ap (λ o. (numbered_draft n1 (made_from t1.draft o)).0) leads_to
        ∙ below_here.numbers
        ∙ ap (λ n. (numbered_draft n q.kids).0) number_is
        ∙ ap (λ d. (numbered_first next d).0) (sym (spot_list t fits i m))

    pub below_room : AreHeld (numbered_first next (made_from t.draft (Some i))).0 → AreHeld (numbered_draft n1 (made_from t1.draft child)).0
    below_room h = subst AreHeld (sym below_numbers) h

    pub below_smaller : made_size (made_from t1.draft child) < made_size (made_from t.draft (Some i))
    below_smaller =
        let l = ap made_size (spot_list t fits i m) in
        let s : made_size (made_from t1.draft child) ≡ made_size q.kids = ap (λ o. made_size (made_from t1.draft o)) leads_to ∙ below_here.size in
        omega arith

    module _ (t2 : Trees Fiber) (n2 : Numbers) (trees : t2 ≡ record t1 { draft = relisted_from child (λ d. (numbered_draft n1 d).1) t1.draft })
        (numbers : n2 ≡ (numbered_draft n1 (made_from t1.draft child)).0) where
      pub node_numbers : n2 ≡ (numbered_first next (made_from t.draft (Some i))).0
      node_numbers = numbers ∙ below_numbers

      node_draft : t2.draft ≡ relisted i (λ d. (numbered_first next d).1) t.draft
      node_draft =
          ap (λ t. t.draft) trees
          ∙ ap (λ o. relisted_from o (λ d. (numbered_draft n1 d).1) t1.draft) leads_to
          ∙ below_here.draft
          ∙ ap (λ n. placed q.around (made i (numbered_fiber next q.value).1 q.old (numbered_draft n q.kids).1 q.rest)) number_is
          ∙ sym (relisted_at t fits (λ d. (numbered_first next d).1) q.around i q.value q.old q.kids q.rest q.here)

      pub node_trees : t2 ≡ record t { draft = relisted i (λ d. (numbered_first next d).1) t.draft }
      node_trees = two t2 t (relisted i (λ d. (numbered_first next d).1) t.draft) (ap (λ t. t.current) trees ∙ ap (λ t. t.current) value) node_draft

-- A list is numbered, one fiber after the other

module _ (t t1 : Trees Fiber) (fits : Fits t) (fits1 : Fits t1) (i : ℕ) (m : Makes t.draft i) (next n1 : Numbers)
    (trees : t1 ≡ record t { draft = relisted i (λ d. (numbered_first next d).1) t.draft })
    (numbers : n1 ≡ (numbered_first next (made_from t.draft (Some i))).0) where
  abbrev r : Stands t.draft i
  r = stands t.draft i m

  abbrev own : Fiber
  own = (numbered_fiber next r.value).1

  abbrev lower : Draft Fiber
  lower = (numbered_draft (numbered_fiber next r.value).0 r.kids).1

  node_here : t1.draft ≡ placed r.around (made i own r.old lower r.rest)
  node_here = ap (λ t. t.draft) trees ∙ relisted_at t fits (λ d. (numbered_first next d).1) r.around i r.value r.old r.kids r.rest r.here

  node_at : IsAt t1 r.around i own r.old lower r.rest
  node_at = is-at t1 fits1 r.around i own r.old lower r.rest node_here

  pub node_made : Makes t1.draft i
  node_made = node_at.makes

  numbers_are : n1 ≡ (numbered_draft (numbered_fiber next r.value).0 r.kids).0
  numbers_are = numbers ∙ ap (λ d. (numbered_first next d).0) (spot_list t fits i m)

  module _ (s : Option ℕ) (sibling : s ≡ entry (made_rest_of t1.draft i)) where
    rest_leads : s ≡ made_entry r.rest
    rest_leads =
        let l = node_at.list in
        let e : made_rest_of t1.draft i ≡ r.rest = rw l refl in
        sibling ∙ ap entry e ∙ made_link r.rest (rest_made t fits r.around i r.value r.old r.kids r.rest r.here)

    rest_here : ListHere t1 (after i own r.old lower r.around) r.rest n1
    rest_here = list_here t1 fits1 (after i own r.old lower r.around) r.rest n1 node_here

    pub rest_makes : IfSome s (Makes t1.draft)
    rest_makes = subst (λ o. IfSome o (Makes t1.draft)) (sym rest_leads) rest_here.makes

    pub rest_numbers : (numbered_draft n1 (made_from t1.draft s)).0 ≡ (numbered_draft next (made_from t.draft (Some i))).0
    rest_numbers =
        ap (λ o. (numbered_draft n1 (made_from t1.draft o)).0) rest_leads
        ∙ rest_here.numbers
        ∙ ap (λ n. (numbered_draft n r.rest).0) numbers_are
        ∙ ap (λ d. (numbered_draft next d).0) (sym (spot_list t fits i m))

    pub rest_smaller : made_size (made_from t1.draft s) < made_size (made_from t.draft (Some i))
    rest_smaller =
        let l = ap made_size (spot_list t fits i m) in
        let z : made_size (made_from t1.draft s) ≡ made_size r.rest = ap (λ o. made_size (made_from t1.draft o)) rest_leads ∙ rest_here.size in
        omega arith

    rest_draft : relisted_from s (λ d. (numbered_draft n1 d).1) t1.draft ≡ relisted i (λ d. (numbered_draft next d).1) t.draft
    rest_draft =
        ap (λ o. relisted_from o (λ d. (numbered_draft n1 d).1) t1.draft) rest_leads
        ∙ rest_here.draft
        ∙ ap (λ n. placed r.around (made i own r.old lower (numbered_draft n r.rest).1)) numbers_are
        ∙ sym (relisted_at t fits (λ d. (numbered_draft next d).1) r.around i r.value r.old r.kids r.rest r.here)

    pub rest_trees : record t1 { draft = relisted_from s (λ d. (numbered_draft n1 d).1) t1.draft } ≡ record t { draft = relisted i (λ d. (numbered_draft next d).1) t.draft }
    rest_trees = λ j. record { current = ap (λ t. t.current) trees j; draft = rest_draft j }
