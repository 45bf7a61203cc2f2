-- The fibers that an old list tells are those of the list itself.
use Rattle.std.specs.Prelude.{◌≡◌, ℕ, zero, suc, ◌+◌, ◌-◌, Bool, true, false, not, ◌&&◌, List, ◌∷◌, ◌++◌, Option, Some, None, IfSome, slice_get, if◌then◌else◌, ◌⊎◌}
use Rattle.std.specs.Option.{option_flatten}
use Rattle.std.proofs.Common.{sym, ap, ◌∙◌, refl, subst, inl, inr, arith}
use Rattle.rx_lists.specs.Shapes.{Shape, none, fiber, Holds, IsTop, IsTree}
use Rattle.rx_links.specs.Drafts.{kids_of, kids_under}
use Rattle.rx_links.specs.Readers.{rest_of, list_from, IsLinked}
use Rattle.rx_fiber.specs.Fibers.{Fiber}
use Rattle.rx_fiber.specs.OldLists.{is_fallback, falls_in, begins_fallback, primary_list, fallback_list, filled, spread, fiber_at}

abbrev slot_at : List (Option ℕ) → ℕ → Option ℕ
slot_at os p = option_flatten (slice_get os p)

-- behind places without a node, a fiber and more, something is that fiber or is one of the more
slot_behind : (n : ℕ) (id : ℕ) (os : List (Option ℕ)) (p i : ℕ) → slot_at (filled n None ++ Some id ∷ os) p ≡ Some i
    → (id ≡ i) ⊎ ((q : ℕ) × (slot_at os q ≡ Some i))
slot_behind zero id os zero i e = inl (let q : id ≡ i = cc in q)
slot_behind zero id os (suc p) i e = inr (p, e)
slot_behind (suc n) id os zero i e = cc
slot_behind (suc n) id os (suc p) i e = slot_behind n id os p i e

spread_top : (n : ℕ) (s : Shape Fiber) (p i : ℕ) → slot_at (spread None (λ id v. Some id) n s) p ≡ Some i → IsTop s i
spread_top n none p i e = cc
spread_top n (fiber id v ks rs) p i e = by_stage (is_fallback v.stage) refl (λ m q f. spread_top m rs q i f)
  where
    by_stage : (b : Bool) → is_fallback v.stage ≡ b
        → ((m q : ℕ) → slot_at (spread None (λ id v. Some id) m rs) q ≡ Some i → IsTop rs i) → IsTop (fiber id v ks rs) i
    by_stage true f rec = inr (rec n p (rw f at e))
    by_stage false f rec =
        let g : slot_at (filled (v.place - n) None ++ Some id ∷ spread None (λ id v. Some id) (suc (n + (v.place - n))) rs) p ≡ Some i = rw f at e in
        elim (slot_behind (v.place - n) id (spread None (λ id v. Some id) (suc (n + (v.place - n))) rs) p i g) [
          | inl q ↦ inl q
          | inr q ↦ inr (rec (suc (n + (v.place - n))) q.0 q.1)
        ]

-- A fiber that an old list tells is one of the list.
pub fiber_top : (s : Shape Fiber) (p i : ℕ) → fiber_at s p ≡ Some i → IsTop s i
fiber_top s p i e = spread_top 0 s p i e

module _ (c : Shape Fiber) (linked : IsLinked c) where
  -- The primary content of an old node is among the children of its fiber.
  pub primary_top : (o : Option ℕ) (i : ℕ) → IfSome o (Holds c) → IsTop (primary_list (list_from c o)) i → IsTop (kids_under c o) i
  primary_top None i h t = t
  primary_top (Some j) i h t =
      let (v, _, l) = linked.list j h in
      by_choice (falls_in v.stage && not (begins_fallback (rest_of c j))) (subst (λ s. IsTop (primary_list s) i) l t)
    where
      by_choice : (b : Bool) → IsTop (if b then none else kids_of c j) i → IsTop (kids_of c j) i
      by_choice true x = absurd x
      by_choice false x = x

  -- So is the fallback of one that has no fiber for it.
  pub fallback_top : (j i : ℕ) → Holds c j → begins_fallback (rest_of c j) ≡ false → IsTop (fallback_list (list_from c (Some j))) i → IsTop (kids_of c j) i
  fallback_top j i h alone t =
      let (v, _, l) = linked.list j h in
      let u : IsTop (if falls_in v.stage then (if begins_fallback (rest_of c j) then _ else kids_of c j) else none) i = subst (λ s. IsTop (fallback_list s) i) l t in
      by_choice (falls_in v.stage) (rw alone at u)
    where
      by_choice : (b : Bool) → IsTop (if b then kids_of c j else none) i → IsTop (kids_of c j) i
      by_choice true x = x
      by_choice false x = absurd x

slot_where : (n id : ℕ) (os : List (Option ℕ)) (p i : ℕ) → slot_at (filled n None ++ Some id ∷ os) p ≡ Some i
    → ((id ≡ i) × (p ≡ n)) ⊎ ((q : ℕ) × (p ≡ suc (n + q)) × (slot_at os q ≡ Some i))
slot_where zero id os zero i e = inl (let q : id ≡ i = cc in q, refl)
slot_where zero id os (suc p) i e = inr (p, omega arith, e)
slot_where (suc n) id os zero i e = cc
slot_where (suc n) id os (suc p) i e =
    elim (slot_where n id os p i e) [
      | inl h ↦ inl (h.0, ap suc h.1)
      | inr h ↦ inr (h.0, (let f : p ≡ suc (n + h.0) = h.1 in omega arith), h.2)
    ]

top_held : (s : Shape Fiber) (i : ℕ) → IsTop s i → Holds s i
top_held none i t = t
top_held (fiber id v ks rs) i (inl e) = inl (sym e)
top_held (fiber id v ks rs) i (inr t) = inr (inr (top_held rs i t))

spread_once : (n : ℕ) (s : Shape Fiber) (p q i : ℕ) → IsTree s → slot_at (spread None (λ id v. Some id) n s) p ≡ Some i
    → slot_at (spread None (λ id v. Some id) n s) q ≡ Some i → p ≡ q
spread_once n none p q i t e f = cc
spread_once n (fiber id v ks rs) p q i t e f = by_stage (is_fallback v.stage) refl (λ m a b x y. spread_once m rs a b i t.4 x y)
  where
    by_stage : (b : Bool) → is_fallback v.stage ≡ b
        → ((m a b : ℕ) → slot_at (spread None (λ id v. Some id) m rs) a ≡ Some i → slot_at (spread None (λ id v. Some id) m rs) b ≡ Some i → a ≡ b) → p ≡ q
    by_stage true g rec = rec n p q (rw g at e) (rw g at f)
    by_stage false g rec =
        let m : ℕ = v.place - n in
        let os : List (Option ℕ) = spread None (λ id v. Some id) (suc (n + m)) rs in
        let x : slot_at (filled m None ++ Some id ∷ os) p ≡ Some i = rw g at e in
        let y : slot_at (filled m None ++ Some id ∷ os) q ≡ Some i = rw g at f in
        by_place (slot_where m id os p i x) (slot_where m id os q i y) (λ a b k l. rec (suc (n + m)) a b k l)
      where
        apart : (a : ℕ) → slot_at (spread None (λ id v. Some id) (suc (n + (v.place - n))) rs) a ≡ Some i → id ≡ i → ⊥
        apart a k h = t.1 (subst (Holds rs) (sym h) (top_held rs i (spread_top (suc (n + (v.place - n))) rs a i k)))

        by_place : ((id ≡ i) × (p ≡ (v.place - n))) ⊎ ((a : ℕ) × (p ≡ suc ((v.place - n) + a)) × (slot_at (spread None (λ id v. Some id) (suc (n + (v.place - n))) rs) a ≡ Some i))
            → ((id ≡ i) × (q ≡ (v.place - n))) ⊎ ((a : ℕ) × (q ≡ suc ((v.place - n) + a)) × (slot_at (spread None (λ id v. Some id) (suc (n + (v.place - n))) rs) a ≡ Some i))
            → ((a b : ℕ) → slot_at (spread None (λ id v. Some id) (suc (n + (v.place - n))) rs) a ≡ Some i → slot_at (spread None (λ id v. Some id) (suc (n + (v.place - n))) rs) b ≡ Some i → a ≡ b)
            → p ≡ q
        by_place (inl (h, l)) (inl (k, m)) same = l ∙ sym m
        by_place (inl (h, l)) (inr (b, m, k)) same = absurd (apart b k h)
        by_place (inr (a, l, h)) (inl (k, m)) same = absurd (apart a h k)
        by_place (inr (a, l, h)) (inr (b, m, k)) same = let r = same a b h k in l ∙ (ap (λ x. suc ((v.place - n) + x)) r ∙ sym m)

-- No fiber of an old list is told at two places.
pub fiber_once : (s : Shape Fiber) (p q i : ℕ) → IsTree s → fiber_at s p ≡ Some i → fiber_at s q ≡ Some i → p ≡ q
fiber_once s p q i t e f = spread_once 0 s p q i t e f
