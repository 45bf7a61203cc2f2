-- What the links of one fiber tell.
use Rattle.std.proofs.Common.{eqb, cond, ◌≡◌, ◌≢◌, ◌⊎◌, inl, inr, ℕ, refl, sym, ap, ◌∙◌, IsSome, Some, None, Option, IfSome, option_map, eq-eqb}
use Rattle.rx_arena.specs.Nodes.{at, alternate_in}
use Rattle.rx_arena.specs.declared.arena.Node.{Node}
use Rattle.rx_lists.specs.Reads.{Nodes, core, core_of, core_at, up_in, up_at, alternate_at, node, Reads, Returns}
use Rattle.rx_lists.specs.Shapes.{Shape, none, fiber, first, Holds}
use Rattle.rx_lists.proofs.Frames.{same_or_not, eqb-false}
use Rattle.rx_links.specs.Drafts.{Draft, taken, made, Trees, or_else, entry, Makes, IsFor, old_of, clone_of, list_at, kids_at, kids_of}
use Rattle.rx_links.specs.Readers.{value_of, rest_of, parent_in, parent_of, made_list_at, made_value_of, made_kids_of, made_rest_of, made_parent_in, made_parent_of, IsIn}
use Rattle.rx_links.specs.Stands.{Drafts, Roots, Shows}
use Rattle.rx_links.proofs.Computed.{held-live, made-live}
use Rattle.rx_links.proofs.DraftFrames.{Drafts-alternate}
use Rattle.rx_links.proofs.Edits.{kids_at-absent, old_of-is, makes-for}
use Rattle.rx_links.proofs.Whole.{for-makes}

or-some : (x y : Option ℕ) (l : ℕ) → y ≡ Some l → (m : ℕ) × (or_else x y ≡ Some m)
or-some None y l e = (l, e)
or-some (Some k) y l e = (k, refl)

module _ {F : Type 0} where
  pub holds_or_not : (c : Shape F) (i : ℕ) → Holds c i ⊎ (Holds c i → ⊥)
  holds_or_not none i = inr (λ h. h)
  holds_or_not (fiber id v ks rs) i = by_cases (same_or_not i id) (holds_or_not ks i) (holds_or_not rs i)
    where
      by_cases : (i ≡ id) ⊎ (i ≢ id) → Holds ks i ⊎ (Holds ks i → ⊥) → Holds rs i ⊎ (Holds rs i → ⊥) → Holds (fiber id v ks rs) i ⊎ (Holds (fiber id v ks rs) i → ⊥)
      by_cases (inl e) _ _ = inl (inl e)
      by_cases (inr n) (inl h) _ = inl (inr (inl h))
      by_cases (inr n) (inr h) (inl g) = inl (inr (inr g))
      by_cases (inr n) (inr h) (inr g) = inr (λ x. elim x [ inl e ↦ n e | inr y ↦ elim y [ inl z ↦ h z | inr z ↦ g z ] ])

  pub makes_or_not : (w : Draft F) (i : ℕ) → Makes w i ⊎ (Makes w i → ⊥)
  makes_or_not (taken s) i = inr (λ h. h)
  makes_or_not (made id v o ks rs) i = by_cases (same_or_not i id) (makes_or_not ks i) (makes_or_not rs i)
    where
      by_cases : (i ≡ id) ⊎ (i ≢ id) → Makes ks i ⊎ (Makes ks i → ⊥) → Makes rs i ⊎ (Makes rs i → ⊥)
          → Makes (made id v o ks rs) i ⊎ (Makes (made id v o ks rs) i → ⊥)
      by_cases (inl e) _ _ = inl (inl e)
      by_cases (inr n) (inl h) _ = inl (inr (inl h))
      by_cases (inr n) (inr h) (inl g) = inl (inr (inr g))
      by_cases (inr n) (inr h) (inr g) = inr (λ x. elim x [ inl e ↦ n e | inr y ↦ elim y [ inl z ↦ h z | inr z ↦ g z ] ])

  pub list_at-absent : (c : Shape F) (i : ℕ) → (Holds c i → ⊥) → list_at c i ≡ None
  list_at-absent none i n = refl
  list_at-absent (fiber id v ks rs) i n =
      rw (eqb-false id i (λ e. n (inl (sym e))), list_at-absent ks i (λ m. n (inr (inl m))), list_at-absent rs i (λ m. n (inr (inr m)))) refl

  parent-absent : (p : Option ℕ) (c : Shape F) (i : ℕ) → (Holds c i → ⊥) → parent_in p c i ≡ None
  parent-absent p none i n = refl
  parent-absent p (fiber id v ks rs) i n =
      rw (eqb-false id i (λ e. n (inl (sym e))), parent-absent (Some id) ks i (λ m. n (inr (inl m))), parent-absent p rs i (λ m. n (inr (inr m)))) refl

  pub made_list_at-absent : (w : Draft F) (i : ℕ) → (Makes w i → ⊥) → made_list_at w i ≡ None
  made_list_at-absent (taken s) i n = refl
  made_list_at-absent (made id v o ks rs) i n =
      rw (eqb-false id i (λ e. n (inl (sym e))), made_list_at-absent ks i (λ m. n (inr (inl m))), made_list_at-absent rs i (λ m. n (inr (inr m)))) refl

  pub made_parent-absent : (p : Option ℕ) (w : Draft F) (i : ℕ) → (Makes w i → ⊥) → made_parent_in p w i ≡ None
  made_parent-absent p (taken s) i n = refl
  made_parent-absent p (made id v o ks rs) i n =
      rw (eqb-false id i (λ e. n (inl (sym e))), made_parent-absent (Some id) ks i (λ m. n (inr (inl m))), made_parent-absent p rs i (λ m. n (inr (inr m)))) refl

  -- a current fiber, as the tree and as the nodes have it
  pub record Found (a : Nodes F) (p : Option ℕ) (c : Shape F) (i : ℕ) : Type 0 where
    pub value : F
    pub kids : Shape F
    pub rest : Shape F
    pub up : Option ℕ
    pub here : core_at a i ≡ Some (core value (first kids) (first rest))
    pub list : list_at c i ≡ Some (fiber i value kids rest)
    pub kids_are : kids_at c i ≡ Some kids
    pub up_here : up_at a i ≡ up
    pub up_is : parent_in p c i ≡ up
    pub below : (q : ℕ) → p ≡ Some q → (r : ℕ) × (up ≡ Some r)

  pub found : (a : Nodes F) (p : Option ℕ) (c : Shape F) (i : ℕ) → Reads a c → Returns a p c → Holds c i → Found a p c i
  found a p none i r u h = absurd h
  found a p (fiber id v ks rs) i r u h =
      by_cases (same_or_not id i) (holds_or_not ks i) (λ m. found a (Some id) ks i r.1 u.1 m) (λ m. found a p rs i r.2 u.2 m) h
    where
      by_cases : (id ≡ i) ⊎ (id ≢ i) → Holds ks i ⊎ (Holds ks i → ⊥) → (Holds ks i → Found a (Some id) ks i) → (Holds rs i → Found a p rs i)
          → Holds (fiber id v ks rs) i → Found a p (fiber id v ks rs) i
      by_cases (inl e) _ f g h = record {
        value = v;
        kids = ks;
        rest = rs;
        up = p;
        here = rw (← e) r.0;
        list = rw (eq-eqb id i e, e) refl;
        kids_are = rw (eq-eqb id i e) refl;
        up_here = rw (← e) u.0;
        up_is = rw (eq-eqb id i e) refl;
        below = λ q e2. (q, e2);
      }
      by_cases (inr n) (inl m) f g h =
          let x = f m in
          let y = x.below id refl in
          record {
            value = x.value;
            kids = x.kids;
            rest = x.rest;
            up = x.up;
            here = x.here;
            list = rw (eqb-false id i n, x.list) refl;
            kids_are = rw (eqb-false id i n, x.kids_are) refl;
            up_here = x.up_here;
            up_is = rw (eqb-false id i n, x.up_is, y.1) refl;
            below = λ q e2. y;
          }
      by_cases (inr n) (inr m) f g h =
          let x = g (in_rest h) in
          record {
            value = x.value;
            kids = x.kids;
            rest = x.rest;
            up = x.up;
            here = x.here;
            list = rw (eqb-false id i n, list_at-absent ks i m, x.list) refl;
            kids_are = rw (eqb-false id i n, kids_at-absent ks i m, x.kids_are) refl;
            up_here = x.up_here;
            up_is = rw (eqb-false id i n, parent-absent (Some id) ks i m, x.up_is) refl;
            below = x.below;
          }
        where
          in_rest : Holds (fiber id v ks rs) i → Holds rs i
          in_rest (inl e) = absurd (n (sym e))
          in_rest (inr (inl z)) = absurd (m z)
          in_rest (inr (inr z)) = z

  -- a made fiber, as the tree in progress and as the nodes have it
  pub record FoundMade (a : Nodes F) (p : Option ℕ) (w : Draft F) (i : ℕ) : Type 0 where
    pub value : F
    pub old : Option ℕ
    pub kids : Draft F
    pub rest : Draft F
    pub up : Option ℕ
    pub here : at a i ≡ Some (node value (entry kids) (entry rest) up old)
    pub list : made_list_at w i ≡ Some (made i value old kids rest)
    pub up_is : made_parent_in p w i ≡ up
    pub below : (q : ℕ) → p ≡ Some q → (r : ℕ) × (up ≡ Some r)

  pub found-made : (a : Nodes F) (p : Option ℕ) (w : Draft F) (i : ℕ) → Drafts a p w → Makes w i → FoundMade a p w i
  found-made a p (taken s) i d h = absurd h
  found-made a p (made id v o ks rs) i d h =
      by_cases (same_or_not id i) (makes_or_not ks i) (λ m. found-made a (Some id) ks i d.1 m) (λ m. found-made a p rs i d.2 m) h
    where
      by_cases : (id ≡ i) ⊎ (id ≢ i) → Makes ks i ⊎ (Makes ks i → ⊥) → (Makes ks i → FoundMade a (Some id) ks i) → (Makes rs i → FoundMade a p rs i)
          → Makes (made id v o ks rs) i → FoundMade a p (made id v o ks rs) i
      by_cases (inl e) _ f g h = record {
        value = v;
        old = o;
        kids = ks;
        rest = rs;
        up = p;
        here = rw (← e) d.0;
        list = rw (eq-eqb id i e, e) refl;
        up_is = rw (eq-eqb id i e) refl;
        below = λ q e2. (q, e2);
      }
      by_cases (inr n) (inl m) f g h =
          let x = f m in
          let y = x.below id refl in
          record {
            value = x.value;
            old = x.old;
            kids = x.kids;
            rest = x.rest;
            up = x.up;
            here = x.here;
            list = rw (eqb-false id i n, x.list) refl;
            up_is = rw (eqb-false id i n, x.up_is, y.1) refl;
            below = λ q e2. y;
          }
      by_cases (inr n) (inr m) f g h =
          let x = g (in_rest h) in
          record {
            value = x.value;
            old = x.old;
            kids = x.kids;
            rest = x.rest;
            up = x.up;
            here = x.here;
            list = rw (eqb-false id i n, made_list_at-absent ks i m, x.list) refl;
            up_is = rw (eqb-false id i n, made_parent-absent (Some id) ks i m, x.up_is) refl;
            below = x.below;
          }
        where
          in_rest : Makes (made id v o ks rs) i → Makes rs i
          in_rest (inl e) = absurd (n (sym e))
          in_rest (inr (inl z)) = absurd (m z)
          in_rest (inr (inr z)) = z

  -- the fiber that was made for a current one
  clone_of-absent : (w : Draft F) (j : ℕ) → ((i : ℕ) → IsFor w i (Some j) → ⊥) → clone_of w j ≡ None
  clone_of-absent (taken s) j n = refl
  clone_of-absent (made id v None ks rs) j n =
      rw (clone_of-absent ks j (λ i m. n i (inr (inl m))), clone_of-absent rs j (λ i m. n i (inr (inr m)))) refl
  clone_of-absent (made id v (Some o) ks rs) j n =
      rw (
        eqb-false o j (λ e. n id (inl (refl, ap Some e))),
        clone_of-absent ks j (λ i m. n i (inr (inl m))),
        clone_of-absent rs j (λ i m. n i (inr (inr m))),
      )
      refl

  clone_of-found : (w : Draft F) (j i : ℕ) → clone_of w j ≡ Some i → IsFor w i (Some j)
  clone_of-found (taken s) j i e = cc
  clone_of-found (made id v None ks rs) j i e = by_first (clone_of ks j) refl e (λ q. clone_of-found ks j i q) (λ q. clone_of-found rs j i q)
    where
      by_first : (x : Option ℕ) → clone_of ks j ≡ x → or_else x (clone_of rs j) ≡ Some i → (clone_of ks j ≡ Some i → IsFor ks i (Some j)) → (clone_of rs j ≡ Some i → IsFor rs i (Some j))
          → IsFor (made id v None ks rs) i (Some j)
      by_first None q e f g = inr (inr (g e))
      by_first (Some k) q e f g = inr (inl (f (q ∙ e)))
  clone_of-found (made id v (Some o) ks rs) j i e =
      by_case (same_or_not o j) (clone_of ks j) refl (λ q. clone_of-found ks j i q) (λ q. clone_of-found rs j i q)
    where
      by_case : (o ≡ j) ⊎ (o ≢ j) → (x : Option ℕ) → clone_of ks j ≡ x → (clone_of ks j ≡ Some i → IsFor ks i (Some j)) → (clone_of rs j ≡ Some i → IsFor rs i (Some j))
          → IsFor (made id v (Some o) ks rs) i (Some j)
      by_case (inl q) x y f g =
          let z : Some id ≡ Some i = rw (eq-eqb o j q) at e in
          let u : id ≡ i = cc in
          inl (sym u, ap Some q)
      by_case (inr n) None y f g = inr (inr (g (rw (eqb-false o j n, y) at e)))
      by_case (inr n) (Some k) y f g =
          let z : Some k ≡ Some i = rw (eqb-false o j n, y) at e in
          inr (inl (f (y ∙ z)))

  clone-some : (w : Draft F) (k j : ℕ) → IsFor w k (Some j) → (l : ℕ) × (clone_of w j ≡ Some l)
  clone-some (taken s) k j f = absurd f
  clone-some (made id v None ks rs) k j (inl f) = cc
  clone-some (made id v None ks rs) k j (inr (inl f)) = let r = clone-some ks k j f in (r.0, rw r.1 refl)
  clone-some (made id v None ks rs) k j (inr (inr f)) = let r = clone-some rs k j f in or-some (clone_of ks j) (clone_of rs j) r.0 r.1
  clone-some (made id v (Some o) ks rs) k j f =
      by_case (same_or_not o j) f (λ g. clone-some ks k j g) (λ g. clone-some rs k j g)
    where
      by_case : (o ≡ j) ⊎ (o ≢ j) → IsFor (made id v (Some o) ks rs) k (Some j)
          → (IsFor ks k (Some j) → (l : ℕ) × (clone_of ks j ≡ Some l)) → (IsFor rs k (Some j) → (l : ℕ) × (clone_of rs j ≡ Some l))
          → (l : ℕ) × (cond (eqb o j) (Some id) (or_else (clone_of ks j) (clone_of rs j)) ≡ Some l)
      by_case (inl e) f a b = (id, rw (eq-eqb o j e) refl)
      by_case (inr n) (inl f) a b = let q = f.1 in absurd (n (let z : o ≡ j = cc in z))
      by_case (inr n) (inr (inl f)) a b = let r = a f in (r.0, rw (eqb-false o j n, r.1) refl)
      by_case (inr n) (inr (inr f)) a b =
          let r = b f in let s = or-some (clone_of ks j) (clone_of rs j) r.0 r.1 in (s.0, rw (eqb-false o j n) s.1)

  module _ (t : Roots F) (trees : Trees F) (h : Shows t trees) where
    pub in-live : (i : ℕ) → IsIn trees i → IsSome (at t.nodes i)
    in-live i (inl m) = held-live t trees.current trees.draft h.stands i m
    in-live i (inr m) = made-live t trees.current trees.draft h.stands i m

    current-found : (i : ℕ) → Holds trees.current i → Found t.nodes None trees.current i
    current-found i m = found t.nodes None trees.current i h.stands.reads h.stands.returns m

    made-found : (i : ℕ) → Makes trees.draft i → FoundMade t.nodes None trees.draft i
    made-found i m = found-made t.nodes None trees.draft i h.stands.drafts m

    slot-core : {A : Type 0} (i : ℕ) (get : Node F → A) (of_core : A) (v : F) (c s : Option ℕ) (r : A) → core_at t.nodes i ≡ Some (core v c s)
        → ((n : Node F) → core_of n ≡ core v c s → get n ≡ of_core) → IfSome (at t.nodes i) (λ n. r ≡ get n) → r ≡ of_core
    slot-core i get of_core v c s r e f g = by_slot (at t.nodes i) refl g
      where
        by_slot : (o : Option (Node F)) → at t.nodes i ≡ o → IfSome o (λ n. r ≡ get n) → r ≡ of_core
        by_slot None q x = let y = ap (option_map core_of) q in cc
        by_slot (Some n) q x = let y = ap (option_map core_of) q in x ∙ f n (let z : core_of n ≡ core v c s = cc in z)

    core_value : F → Option ℕ → Option ℕ → F
    core_value v c s = v

    pub current-value : (i : ℕ) (r : F) → IfSome (at t.nodes i) (λ n. r ≡ n.value) → Holds trees.current i → Some r ≡ value_of trees.current i
    current-value i r g m =
        let x = current-found i m in
        rw x.list (ap Some (slot-core i (λ n. n.value) x.value x.value (first x.kids) (first x.rest) r x.here (λ n e. let z = e in cc) g))

    pub current-child : (i : ℕ) (r : Option ℕ) → IfSome (at t.nodes i) (λ n. r ≡ n.child) → Holds trees.current i → r ≡ first (kids_of trees.current i)
    current-child i r g m =
        let x = current-found i m in
        rw x.kids_are (slot-core i (λ n. n.child) (first x.kids) x.value (first x.kids) (first x.rest) r x.here (λ n e. let z = e in cc) g)

    pub current-sibling : (i : ℕ) (r : Option ℕ) → IfSome (at t.nodes i) (λ n. r ≡ n.sibling) → Holds trees.current i → r ≡ first (rest_of trees.current i)
    current-sibling i r g m =
        let x = current-found i m in
        rw x.list (slot-core i (λ n. n.sibling) (first x.rest) x.value (first x.kids) (first x.rest) r x.here (λ n e. let z = e in cc) g)

    slot : {A : Type 0} (i : ℕ) (get : Option (Node F) → A) (r : A) → IsSome (at t.nodes i) → IfSome (at t.nodes i) (λ n. r ≡ get (Some n)) → r ≡ get (at t.nodes i)
    slot i get r s g = by_slot (at t.nodes i) refl s g
      where
        by_slot : (o : Option (Node F)) → at t.nodes i ≡ o → IsSome o → IfSome o (λ n. r ≡ get (Some n)) → r ≡ get (at t.nodes i)
        by_slot None q s x = cc
        by_slot (Some n) q s x = x ∙ ap get (sym q)

    pub current-parent : (i : ℕ) (r : Option ℕ) → IfSome (at t.nodes i) (λ n. r ≡ n.up) → Holds trees.current i → r ≡ parent_of trees.current i
    current-parent i r g m =
        let x = current-found i m in
        slot i up_in r (in-live i (inl m)) g ∙ x.up_here ∙ sym x.up_is

    pub made-value : (i : ℕ) (r : F) → IfSome (at t.nodes i) (λ n. r ≡ n.value) → Makes trees.draft i → Some r ≡ made_value_of trees.draft i
    made-value i r g m =
        let x = made-found i m in
        rw x.list (let y = rw x.here at g in ap Some y)

    pub made-child : (i : ℕ) (r : Option ℕ) → IfSome (at t.nodes i) (λ n. r ≡ n.child) → Makes trees.draft i → r ≡ entry (made_kids_of trees.draft i)
    made-child i r g m = let x = made-found i m in rw x.list (rw x.here at g)

    pub made-sibling : (i : ℕ) (r : Option ℕ) → IfSome (at t.nodes i) (λ n. r ≡ n.sibling) → Makes trees.draft i → r ≡ entry (made_rest_of trees.draft i)
    made-sibling i r g m = let x = made-found i m in rw x.list (rw x.here at g)

    pub made-parent : (i : ℕ) (r : Option ℕ) → IfSome (at t.nodes i) (λ n. r ≡ n.up) → Makes trees.draft i → r ≡ made_parent_of trees.draft i
    made-parent i r g m = let x = made-found i m in rw x.up_is (rw x.here at g)

    pub made-old : (i : ℕ) (r : Option ℕ) → IfSome (at t.nodes i) (λ n. r ≡ n.alternate) → Makes trees.draft i → r ≡ old_of trees.draft i
    made-old i r g m =
        let x = makes-for trees.draft i m in
        slot i alternate_in r (in-live i (inr m)) g
        ∙ Drafts-alternate t.nodes None trees.draft i x.0 h.stands.drafts x.1
        ∙ sym (old_of-is trees.draft i x.0 h.stands.made_once x.1)

    pub current-clone : (i : ℕ) (r : Option ℕ) → IfSome (at t.nodes i) (λ n. r ≡ n.alternate) → Holds trees.current i → r ≡ clone_of trees.draft i
    current-clone i r g m = slot i alternate_in r (in-live i (inl m)) g ∙ by_clone (clone_of trees.draft i) refl
      where
        by_clone : (o : Option ℕ) → clone_of trees.draft i ≡ o → alternate_at t.nodes i ≡ clone_of trees.draft i
        by_clone (Some k) e = h.stands.back k i (clone_of-found trees.draft i k e) ∙ sym e
        by_clone None e = none_left (alternate_at t.nodes i) refl ∙ sym e
          where
            none_left : (x : Option ℕ) → alternate_at t.nodes i ≡ x → x ≡ None
            none_left None q = refl
            none_left (Some k) q =
                elim (h.stands.links i k q) [
                  | inl f ↦ absurd (h.stands.apart i m (for-makes trees.draft i (Some k) f))
                  | inr f ↦ let b = clone-some trees.draft k i f in no_clone b.0 b.1
                ]
              where
                no_clone : (l : ℕ) → clone_of trees.draft i ≡ Some l → Some k ≡ None
                no_clone l y = cc
