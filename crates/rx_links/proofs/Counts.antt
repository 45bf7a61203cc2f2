-- How many nodes are live.
use Rattle.std.proofs.Common.{◌≡◌, ◌≢◌, ◌<◌, ℕ, zero, suc, ◌+◌, ◌≤◌, inl, inr, ◌⊎◌, ap, ◌∙◌, refl, Some, None, Option, IsSome, is_some, List, [], ◌∷◌, ◌++◌, length, arith, get_or, set, count_by, cond}
use Rattle.std.proofs.lemmas.Grind.{common_steps}
use Rattle.std.proofs.lemmas.List.Sums.{sum_by-cons}
use Rattle.slab.specs.Slab.{slab_len}
use Rattle.rx_arena.specs.Nodes.{at}
use Rattle.rx_lists.specs.Reads.{Nodes}
use Rattle.rx_lists.specs.Shapes.{Shape, none, fiber, Holds, IsTree, size, ids}
use Rattle.rx_lists.proofs.Frames.{same_or_not}
use Rattle.rx_links.specs.Drafts.{Draft, taken, made, Makes, IsMadeOnce, made_size}
use Rattle.rx_links.proofs.Parts.{made_part}

-- the id is one of these
abbrev pub Member : List ℕ → ℕ → Type 0
Member [] i = ⊥
Member (x ∷ xs) i = (i ≡ x) ⊎ Member xs i

-- none stands there twice
abbrev pub Once : List ℕ → Type 0
Once [] = Unit {0}
Once (x ∷ xs) = (Member xs x → ⊥) × Once xs

pub append-member : (xs ys : List ℕ) (i : ℕ) → Member (xs ++ ys) i → Member xs i ⊎ Member ys i
append-member [] ys i m = inr m
append-member (x ∷ xs) ys i (inl e) = inl (inl e)
append-member (x ∷ xs) ys i (inr m) = elim (append-member xs ys i m) [ inl q ↦ inl (inr q) | inr q ↦ inr q ]

pub member-left : (xs ys : List ℕ) (i : ℕ) → Member xs i → Member (xs ++ ys) i
member-left [] ys i m = absurd m
member-left (x ∷ xs) ys i (inl e) = inl e
member-left (x ∷ xs) ys i (inr m) = inr (member-left xs ys i m)

pub member-right : (xs ys : List ℕ) (i : ℕ) → Member ys i → Member (xs ++ ys) i
member-right [] ys i m = m
member-right (x ∷ xs) ys i m = inr (member-right xs ys i m)

pub append-once : (xs ys : List ℕ) → Once xs → Once ys → ((i : ℕ) → Member xs i → Member ys i → ⊥) → Once (xs ++ ys)
append-once [] ys a b d = b
append-once (x ∷ xs) ys a b d = (
  λ m. elim (append-member xs ys x m) [ inl q ↦ a.0 q | inr q ↦ d x (inl refl) q ],
  append-once xs ys a.1 b (λ i p q. d i (inr p) q),
)

pub append-length : (xs ys : List ℕ) → length (xs ++ ys) ≡ length xs + length ys
append-length [] ys = omega arith
append-length (x ∷ xs) ys = omega (arith, append-length xs ys)

pub member-at : (xs : List ℕ) (k d : ℕ) → k < length xs → Member xs (get_or xs k d)
member-at [] k d h = absurd (omega arith)
member-at (x ∷ xs) zero d h = inl refl
member-at (x ∷ xs) (suc k) d h = inr (member-at xs k d (omega arith))

module _ {X : Type 0} where
  count-cleared : (xs : List (Option X)) (i : ℕ) (x : X) → get_or xs i None ≡ Some x → suc (count_by is_some (set xs i None)) ≡ count_by is_some xs
  count-cleared xs i x e = grind (arith, common_steps)

  cleared-here : (xs : List (Option X)) (i : ℕ) → get_or (set xs i None) i None ≡ None
  cleared-here xs i = grind (arith, common_steps)

  cleared-others : (xs : List (Option X)) (i j : ℕ) → j ≢ i → get_or (set xs i None) j None ≡ get_or xs j None
  cleared-others xs i j n = grind (arith, common_steps)

  count-none : (xs : List (Option X)) → ((i : ℕ) → get_or xs i None ≡ None) → count_by is_some xs ≡ 0
  count-none [] h = refl
  count-none (x ∷ xs) h =
      sum_by-cons (λ y. cond (is_some y) 1 0) x xs ∙ rw (h 0) (ap (λ n. 0 + n) (count-none xs (λ i. h (suc i))))

  abbrev cleared : List ℕ → List (Option X) → List (Option X)
  cleared [] s = s
  cleared (x ∷ xs) s = cleared xs (set s x None)

  count-rest : (xs : List ℕ) (s : List (Option X)) → Once xs → ((i : ℕ) → Member xs i → IsSome (get_or s i None))
      → count_by is_some s ≡ length xs + count_by is_some (cleared xs s)
  count-rest [] s o h = omega arith
  count-rest (x ∷ xs) s o h =
      by_slot (get_or s x None) refl (h x (inl refl))
      (count-rest xs (set s x None) o.1 (λ i m. rw (cleared-others s x i (λ e. o.0 (rw e at m))) (h i (inr m))))
    where
      by_slot : (y : Option X) → get_or s x None ≡ y → IsSome y → count_by is_some (set s x None) ≡ length xs + count_by is_some (cleared xs (set s x None))
          → count_by is_some s ≡ suc (length xs) + count_by is_some (cleared xs (set s x None))
      by_slot None e g rest = cc
      by_slot (Some y) e g rest = let q = count-cleared s x y e in omega (arith, rest)

  all-cleared : (xs : List ℕ) (s : List (Option X)) → ((i : ℕ) → IsSome (get_or s i None) → Member xs i) → (i : ℕ) → get_or (cleared xs s) i None ≡ None
  all-cleared [] s h i = by_slot (get_or s i None) refl
    where
      by_slot : (y : Option X) → get_or s i None ≡ y → y ≡ None
      by_slot None e = refl
      by_slot (Some y) e = absurd (h i (rw e refl))
  all-cleared (x ∷ xs) s h i = all-cleared xs (set s x None) (λ j p. by_case j (same_or_not j x) p) i
    where
      by_case : (j : ℕ) → (j ≡ x) ⊎ (j ≢ x) → IsSome (get_or (set s x None) j None) → Member xs j
      by_case j (inl e) p = let q = cleared-here s x in let r : get_or (set s x None) j None ≡ None = rw e q in absurd (let z = rw r at p in cc)
      by_case j (inr n) p = elim (h j (rw (cleared-others s x j n) at p)) [ inl e ↦ absurd (n e) | inr m ↦ m ]

module _ {F : Type 0} where
  pub ids-held : (c : Shape F) (i : ℕ) → Member (ids c) i → Holds c i
  ids-held none i m = m
  ids-held (fiber id v ks rs) i (inl e) = inl e
  ids-held (fiber id v ks rs) i (inr m) = inr (elim (append-member (ids ks) (ids rs) i m) [ inl q ↦ inl (ids-held ks i q) | inr q ↦ inr (ids-held rs i q) ])

  pub held-ids : (c : Shape F) (i : ℕ) → Holds c i → Member (ids c) i
  held-ids none i m = m
  held-ids (fiber id v ks rs) i (inl e) = inl e
  held-ids (fiber id v ks rs) i (inr (inl m)) = inr (member-left (ids ks) (ids rs) i (held-ids ks i m))
  held-ids (fiber id v ks rs) i (inr (inr m)) = inr (member-right (ids ks) (ids rs) i (held-ids rs i m))

  pub ids-once : (c : Shape F) → IsTree c → Once (ids c)
  ids-once none t = tt
  ids-once (fiber id v ks rs) t = (
    λ m. elim (append-member (ids ks) (ids rs) id m) [ inl q ↦ t.0 (ids-held ks id q) | inr q ↦ t.1 (ids-held rs id q) ],
    append-once (ids ks) (ids rs) (ids-once ks t.3) (ids-once rs t.4) (λ i p q. t.2 i (ids-held ks i p) (ids-held rs i q)),
  )

  pub ids-length : (c : Shape F) → length (ids c) ≡ size c
  ids-length none = refl
  ids-length (fiber id v ks rs) = ap suc (append-length (ids ks) (ids rs) ∙ rw (ids-length ks, ids-length rs) refl)

  pub part-makes : (w : Draft F) (i : ℕ) → Holds (made_part w) i → Makes w i
  part-makes (taken s) i h = h
  part-makes (made id v o ks rs) i (inl e) = inl e
  part-makes (made id v o ks rs) i (inr (inl h)) = inr (inl (part-makes ks i h))
  part-makes (made id v o ks rs) i (inr (inr h)) = inr (inr (part-makes rs i h))

  pub makes-part : (w : Draft F) (i : ℕ) → Makes w i → Holds (made_part w) i
  makes-part (taken s) i h = h
  makes-part (made id v o ks rs) i (inl e) = inl e
  makes-part (made id v o ks rs) i (inr (inl h)) = inr (inl (makes-part ks i h))
  makes-part (made id v o ks rs) i (inr (inr h)) = inr (inr (makes-part rs i h))

  pub part-tree : (w : Draft F) → IsMadeOnce w → IsTree (made_part w)
  part-tree (taken s) m = tt
  part-tree (made id v o ks rs) m = (
    λ h. m.0 (part-makes ks id h),
    λ h. m.1 (part-makes rs id h),
    λ i p q. m.2 i (part-makes ks i p) (part-makes rs i q),
    part-tree ks m.3,
    part-tree rs m.4,
  )

  pub part-size : (w : Draft F) → size (made_part w) ≡ made_size w
  part-size (taken s) = refl
  part-size (made id v o ks rs) = rw (part-size ks, part-size rs) refl

  -- a tree of live nodes has at most as many
  pub tree-fits : (a : Nodes F) (c : Shape F) → IsTree c → ((i : ℕ) → Holds c i → IsSome (at a i)) → size c ≤ slab_len a
  tree-fits a c t live =
      let e = count-rest (ids c) a.slots (ids-once c t) (λ i m. live i (ids-held c i m)) in
      omega (arith, e, ids-length c)

  -- if the live nodes are those of the two trees, they are as many
  pub count-both : (a : Nodes F) (c : Shape F) (w : Draft F) → IsTree c → IsMadeOnce w → ((i : ℕ) → Holds c i → Makes w i → ⊥)
      → ((i : ℕ) → Holds c i → IsSome (at a i)) → ((i : ℕ) → Makes w i → IsSome (at a i)) → ((i : ℕ) → IsSome (at a i) → Holds c i ⊎ Makes w i)
      → slab_len a ≡ size c + made_size w
  count-both a c w t m apart_ held makes all_ =
      let xs = ids c ++ ids (made_part w) in
      let once = append-once (ids c) (ids (made_part w)) (ids-once c t) (ids-once (made_part w) (part-tree w m))
      (λ i p q. apart_ i (ids-held c i p) (part-makes w i (ids-held (made_part w) i q))) in
      let e = count-rest xs a.slots once
      (λ i q. elim (append-member (ids c) (ids (made_part w)) i q) [
        | inl x ↦ held i (ids-held c i x)
        | inr x ↦ makes i (part-makes w i (ids-held (made_part w) i x))
      ]) in
      let z = count-none (cleared xs a.slots)
      (all-cleared xs a.slots
      (λ i s. elim (all_ i s) [
        | inl x ↦ member-left (ids c) (ids (made_part w)) i (held-ids c i x)
        | inr x ↦ member-right (ids c) (ids (made_part w)) i (held-ids (made_part w) i (makes-part w i x))
      ])) in
      omega (arith, e, z, append-length (ids c) (ids (made_part w)), ids-length c, ids-length (made_part w), part-size w)
