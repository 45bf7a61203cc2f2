-- A made fiber stands at one place of the tree in progress.
use Rattle.std.proofs.Common.{◌≡◌, ℕ, inl, inr, sym, ap, ◌∙◌, refl, eq-eqb, eqb, Option, Some, None, if◌then◌else◌}
use Rattle.rx_lists.proofs.Frames.{eqb-false}
use Rattle.rx_links.specs.Drafts.{Draft, taken, made, Trees, Fits, Makes, IsMadeOnce, or_else}
use Rattle.rx_links.specs.Places.{Around, top, below, after, placed}
use Rattle.rx_links.proofs.Placed.{MakesAround, placed-apart}
use Rattle.rx_fiber.specs.Fibers.{Fiber}

-- what surrounds a fiber that is made in a list
abbrev search : Around Fiber → Draft Fiber → ℕ → Option (Around Fiber)
search k (taken s) p = None
search k (made id v o ks rs) p = if eqb id p then Some k else or_else (search (below id v o rs k) ks p) (search (after id v o ks k) rs p)

absent : (k : Around Fiber) (d : Draft Fiber) (p : ℕ) → (Makes d p → ⊥) → search k d p ≡ None
absent k (taken s) p n = refl
absent k (made id v o ks rs) p n =
    rw (eqb-false id p (λ e. n (inl (sym e))), absent (below id v o rs k) ks p (λ m. n (inr (inl m))), absent (after id v o ks k) rs p (λ m. n (inr (inr m)))) refl

found : (k : Around Fiber) (d : Draft Fiber) (p : ℕ) (x : Around Fiber) → (MakesAround k p → ⊥) → search k d p ≡ Some x → search top (placed k d) p ≡ Some x
found top d p x n e = e
found (below id v o rs k) d p x n e = found k (made id v o d rs) p x (λ m. n (inr (inr m))) (rw (eqb-false id p (λ z. n (inl (sym z))), e) refl)
found (after id v o ks k) d p x n e =
    found k (made id v o ks d) p x (λ m. n (inr (inr m)))
    (rw (eqb-false id p (λ z. n (inl (sym z))), absent (below id v o d k) ks p (λ m. n (inr (inl m))), e) refl)

stands : (t : Trees Fiber) → Fits t → (k : Around Fiber) (p : ℕ) (v : Fiber) (o : Option ℕ) (ks rs : Draft Fiber) → t.draft ≡ placed k (made p v o ks rs) → search top t.draft p ≡ Some k
stands t fits k p v o ks rs e =
    let once : IsMadeOnce (placed k (made p v o ks rs)) = let q = fits.made_once in rw e at q in
    let here : search k (made p v o ks rs) p ≡ Some k = rw (eq-eqb p p refl) refl in
    ap (λ d. search top d p) e ∙ found k (made p v o ks rs) p k (placed-apart k (made p v o ks rs) once p (inl refl)) here

-- what surrounds it is one
pub same_around : (t : Trees Fiber) → Fits t → (p : ℕ) (k : Around Fiber) (v : Fiber) (o : Option ℕ) (ks rs : Draft Fiber) → t.draft ≡ placed k (made p v o ks rs)
    → (l : Around Fiber) (w : Fiber) (q : Option ℕ) (ls us : Draft Fiber) → t.draft ≡ placed l (made p w q ls us) → k ≡ l
same_around t fits p k v o ks rs e l w q ls us f =
    let a : Some k ≡ Some l = sym (stands t fits k p v o ks rs e) ∙ stands t fits l p w q ls us f in
    cc
