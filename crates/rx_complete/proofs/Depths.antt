-- How deep a made fiber lies: the walk outwards comes to its end.
use Rattle.std.specs.Prelude.{◌≡◌, ℕ, suc, ◌+◌, eqb, Option, Some, None, option_map, unwrap_or, if◌then◌else◌}
use Rattle.std.proofs.Common.{refl, sym, ap, ◌∙◌, inl, inr, arith, eq-eqb}
use Rattle.rx_lists.proofs.Frames.{eqb-false}
use Rattle.rx_links.specs.Drafts.{Draft, taken, made, Trees, Makes, IsMadeOnce, Fits, or_else}
use Rattle.rx_links.specs.Places.{Around, top, below, after, placed}
use Rattle.rx_links.proofs.Placed.{MakesAround, placed-apart}
use Rattle.rx_fiber.specs.Fibers.{Fiber}
use Rattle.rx_fiber.proofs.Unwinding.{depth}

-- how many fibers a made one lies below
abbrev pub made_depth : Draft Fiber → ℕ → Option ℕ
made_depth (taken s) i = None
made_depth (made id v o ks rs) i = if eqb id i then Some 0 else or_else (option_map (λ n. suc n) (made_depth ks i)) (made_depth rs i)

abbrev pub depth_of : Draft Fiber → ℕ → ℕ
depth_of d i = unwrap_or (made_depth d i) 0

absent_depth : (d : Draft Fiber) (p : ℕ) → (Makes d p → ⊥) → made_depth d p ≡ None
absent_depth (taken s) p n = refl
absent_depth (made id v o ks rs) p n =
    rw (eqb-false id p (λ e. n (inl (sym e))), absent_depth ks p (λ m. n (inr (inl m))), absent_depth rs p (λ m. n (inr (inr m)))) refl

placed_depth : (k : Around Fiber) (d : Draft Fiber) (p n : ℕ) → (MakesAround k p → ⊥) → made_depth d p ≡ Some n → made_depth (placed k d) p ≡ Some (depth k + n)
placed_depth top d p n out e = e ∙ ap Some (let q : n ≡ 0 + n = omega arith in q)
placed_depth (below id v o rs k) d p n out e =
    placed_depth k (made id v o d rs) p (suc n) (λ m. out (inr (inr m))) (rw (eqb-false id p (λ q. out (inl (sym q))), e) refl)
    ∙ ap Some (let q : depth k + suc n ≡ suc (depth k) + n = omega arith in q)
placed_depth (after id v o ks k) d p n out e =
    placed_depth k (made id v o ks d) p n (λ m. out (inr (inr m)))
    (rw (eqb-false id p (λ q. out (inl (sym q))), absent_depth ks p (λ m. out (inr (inl m))), e) refl)

-- the depth of a fiber, by what surrounds it
pub depth_is : (t : Trees Fiber) → Fits t → (k : Around Fiber) (p : ℕ) (v : Fiber) (o : Option ℕ) (ks rs : Draft Fiber) → t.draft ≡ placed k (made p v o ks rs) → depth_of t.draft p ≡ depth k
depth_is t fits k p v o ks rs e =
    let once : IsMadeOnce (placed k (made p v o ks rs)) = let q = fits.made_once in rw e at q in
    let here : made_depth (made p v o ks rs) p ≡ Some 0 = rw (eq-eqb p p refl) refl in
    let d = placed_depth k (made p v o ks rs) p 0 (placed-apart k (made p v o ks rs) once p (inl refl)) here in
    rw (e, d) (let q : depth k + 0 ≡ depth k = omega arith in q)
