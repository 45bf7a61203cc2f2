-- What a wait or a throw leaves of the flags.
use Rattle.std.specs.Prelude.{◌≡◌, ℕ, ℤ, Bool, true, List, ◌∷◌, Option, Some}
use Rattle.std.proofs.Common.{refl, sym, ap, ◌∙◌, subst}
use Rattle.rx_ctx.specs.Contexts.{Stack}
use Rattle.rx_lists.specs.Shapes.{Shape}
use Rattle.rx_lists.specs.Shapes as shapes
use Rattle.rx_links.specs.Drafts.{Draft, taken, made, Trees, Fits}
use Rattle.rx_links.specs.Places.{Around, top, below, after, placed}
use Rattle.rx_meaning.specs.Fresh.{Contexts}
use Rattle.rx_meaning.specs.Cursor.{Open, Frame}
use Rattle.rx_fiber.specs.Fibers.{Fiber, Stage, origin_of}
use Rattle.rx_fiber.specs.Surround.{above_list, given_along, moved_along, IsOpenAs, opens, tries, falls, guards, IsAround, IsListOf, of_node, of_fallback}
use Rattle.rx_fiber.specs.Surround as surround
use Rattle.rx_fiber.specs.Unwound.{IsWithin, is_guarding, is_trying}
use Rattle.rx_complete.specs.Ends.{Outer, nearest, nearest_catch, nearest_where}
use Rattle.cost_laws.specs.Evaluated.{once_caught}
use Rattle.cost_laws.specs.Left.{Flags, flag, outer, thrown_by, thrown_past, unwound, unwound_by}
use Rattle.begin_laws.specs.Flagged.{IsFlagged, at_root, inside, FlagsHere, HasThrown, HasUnwound, KeepsTold}
use Rattle.begin_laws.proofs.Once.{same_around}

-- what a wait comes to, in these flags
record Out (c : Shape Fiber) (u : Outer) (vs : Flags) : Type 0 where
  pub flagged : IsFlagged c u.around u.rest (outer vs)
  pub some : vs ≡ flag (outer vs) ∷ outer vs
  pub kept : (origin_of u.value.stage).visible ≡ (flag (outer vs)).visible

-- what a throw comes to, in these flags
record CaughtOut (c : Shape Fiber) (u : Outer) (vs : Flags) : Type 0 where
  pub flagged : IsFlagged c u.around u.rest (outer vs)
  pub some : vs ≡ once_caught (flag (outer vs)) ∷ outer vs

pub nearest_above : (stops : Stage → Bool) (k : Around Fiber) → nearest_where stops k ≡ nearest_where stops (above_list k)
nearest_above stops top = refl
nearest_above stops (below id v o rs k) = refl
nearest_above stops (after id v o ks k) = nearest_above stops k

-- the flags of a list, and those around the fiber above it, which keeps what its own flag tells
abbrev Above : Shape Fiber → Around Fiber → Draft Fiber → Fiber → Flags → Type 0
Above c k rest v us = IsFlagged c k rest us × KeepsTold (flag us) v

open_out : (c : Shape Fiber) (ms : List ℕ) (ws : List (ℕ × ℤ)) (v : Fiber) (o : Option ℕ) (cs : Contexts) (x : Open) → IsOpenAs c ms ws v o cs x → (q : ℕ) (rest : Draft Fiber) (k : Around Fiber) (us vs : Flags) (u : Outer)
    → Above c k rest v (outer us) → nearest (below q v o rest k) ≡ Some u → (nearest k ≡ Some u → Out c u vs) → Out c u (unwound_by x us vs)
open_out c ms ws v o cs _ (opens {m = m} element mark shown) q rest k us vs u out near further = further (rw mark at near)
open_out c ms ws v o cs _ (falls element mark gone) q rest k us vs u out near further = further (rw mark at near)
open_out c ms ws v o cs _ (guards element s is) q rest k us vs u out near further = further (rw s at near)
open_out c ms ws v o cs _ (tries element s is was stands) q rest k us vs u out near further =
    let b : is_trying v.stage ≡ true = ap is_trying s in
    let same_outer : Some (record { around = k; id = q; value = v; old = o; rest = rest }) ≡ Some u = rw b at near in
    let same : record { around = k; id = q; value = v; old = o; rest = rest } ≡ u = cc in
    subst (λ (w : Outer). Out c w (flag (outer us) ∷ outer us)) same (record { flagged = out.0; some = refl; kept = out.1 b })

around_is : (c : Shape Fiber) (k : Around Fiber) (d : Draft Fiber) (us : Flags) (l : Around Fiber) → above_list k ≡ l → IsFlagged c k d us → (q : ℕ) (v : Fiber) (o : Option ℕ) (rest : Draft Fiber) (k₁ : Around Fiber) → l ≡ below q v o rest k₁
    → Above c k₁ rest v (outer us)
around_is c k d _ l same (at_root at bare told) q v o rest k₁ up = absurd (let e = sym at ∙ (same ∙ up) in let n : ⊥ = cc in n)
around_is c k d _ l same (inside {k₁ = j} {rest = ls} {v = w} {us = us} at keeps moved bare told out) q v o rest k₁ up =
    let e = sym at ∙ (same ∙ up) in
    let a : j ≡ k₁ = cc in
    let b : ls ≡ rest = cc in
    let d : w ≡ v = cc in
    (subst (λ x. IsFlagged c x rest us) a (subst (λ x. IsFlagged c j x us) b out), subst (KeepsTold (flag us)) d keeps)

ahead : (c : Shape Fiber) (k : Around Fiber) (d : Draft Fiber) (us : Flags) (id : ℕ) (v : Fiber) (o : Option ℕ) (ks : Draft Fiber) → IsFlagged c (after id v o ks k) d us → IsFlagged c k d us
ahead c k d _ id v o ks (at_root up bare told) = at_root up bare told
ahead c k d _ id v o ks (inside up keeps moved bare told out) = inside up keeps moved bare told out

-- the same of a throw
open_throws : (c : Shape Fiber) (ms : List ℕ) (ws : List (ℕ × ℤ)) (v : Fiber) (o : Option ℕ) (cs : Contexts) (x : Open) → IsOpenAs c ms ws v o cs x → (q : ℕ) (rest : Draft Fiber) (k : Around Fiber) (us vs : Flags) (u : Outer)
    → Above c k rest v (outer us) → nearest_catch (below q v o rest k) ≡ Some u → (nearest_catch k ≡ Some u → CaughtOut c u vs) → CaughtOut c u (thrown_by x us vs)
open_throws c ms ws v o cs _ (opens element mark shown) q rest k us vs u out near further = further (rw mark at near)
open_throws c ms ws v o cs _ (falls element mark gone) q rest k us vs u out near further = further (rw mark at near)
open_throws c ms ws v o cs _ (tries element s is was stands) q rest k us vs u out near further = further (rw s at near)
open_throws c ms ws v o cs _ (guards element s is) q rest k us vs u out near further =
    let b : is_guarding v.stage ≡ true = ap is_guarding s in
    let same_outer : Some (record { around = k; id = q; value = v; old = o; rest = rest }) ≡ Some u = rw b at near in
    let same : record { around = k; id = q; value = v; old = o; rest = rest } ≡ u = cc in
    subst (λ (w : Outer). CaughtOut c w (once_caught (flag (outer us)) ∷ outer us)) same (record { flagged = out.0; some = refl })

-- a wait goes out along the open nodes
mutual
  goes_out : (c : Shape Fiber) (k l : Around Fiber) (n : ℕ) (rs : Draft Fiber) (fs : List Frame) (d : Draft Fiber) (us : Flags) → IsAround c k n rs fs → above_list l ≡ above_list k → IsFlagged c l d us
      → (u : Outer) → nearest l ≡ Some u → Out c u (unwound fs us)
  goes_out c _ l _ _ _ d us surround.at_root same is u near =
      absurd (let e = sym near ∙ (nearest_above is_trying l ∙ ap nearest same) in let n : ⊥ = cc in n)
  goes_out c k l n rs (f ∷ fs) d us (surround.inside before behind list) same is u near =
      list_out c k l _ f.node f.contexts fs d us list same is u near

  list_out : (c : Shape Fiber) (k l : Around Fiber) (q : ℕ) (x : Open) (cs : Contexts) (fs : List Frame) (d : Draft Fiber) (us : Flags) → IsListOf c k q x cs fs → above_list l ≡ above_list k → IsFlagged c l d us
      → (u : Outer) → nearest l ≡ Some u → Out c u (unwound_by x us (unwound fs (outer us)))
  list_out c k l q x cs fs d us (of_node {k₁ = k₁} {v = v} {o = o} {rest = rest} above opened own around) same is u near =
      let out = around_is c l d us (above_list k) same is q v o rest k₁ above in
      open_out c (moved_along c k₁) (given_along fs) v o cs x opened q rest k₁ us (unwound fs (outer us)) u out (sym (ap nearest (same ∙ above)) ∙ (sym (nearest_above is_trying l) ∙ near))
      (λ further. goes_out c k₁ k₁ v.place rest fs rest (outer us) around refl out.0 u further)
  list_out c k l q _ cs fs d us (of_fallback {k₁ = k₁} {b = b} {v = v} {w = w} {o = o} {p = p} {kept = kept} {rest = rest} above kept_as own behind around) same is u near =
      let out = around_is c l d us (above_list k) same is q w p rest (after b v o (taken kept) k₁) above in
      let st = kept_as.stage in
      let further : nearest (below q w p rest (after b v o (taken kept) k₁)) ≡ Some u = sym (ap nearest (same ∙ above)) ∙ (sym (nearest_above is_trying l) ∙ near) in
      goes_out c k₁ k₁ v.place rest fs rest (outer us) around refl (ahead c k₁ rest (outer us) b v o (taken kept) out.0) u (rw st at further)

pub unwinds : (t new : Trees Fiber) (st : Stack) (p : ℕ) (kids : Draft Fiber) (fs : List Frame) (us : Flags) → Fits t → (h : FlagsHere t p kids us) → IsWithin t st p fs
    → (u : Outer) → nearest h.around ≡ Some u → new.draft ≡ placed u.around (made u.id u.value u.old (taken shapes.none) u.rest) → new.current ≡ t.current → HasUnwound new u.id u.value fs us
unwinds t new st p kids fs us fits h w u near here current =
    let same : h.around ≡ w.around = same_around t fits p h.around h.value h.old kids h.rest h.here w.around w.value w.old w.kids w.rest w.here in
    let out = goes_out t.current w.beside h.around w.place w.later fs h.rest us w.surrounds (ap above_list same ∙ w.same_list) h.flagged u near in
    record {
      flags = record { around = u.around; value = u.value; old = u.old; rest = u.rest; here = here; flagged = subst (λ c. IsFlagged c u.around u.rest (outer (unwound fs us))) (sym current) out.flagged };
      some = out.some;
      kept = out.kept;
    }

-- a throw goes out along them too
mutual
  goes_past : (c : Shape Fiber) (k l : Around Fiber) (n : ℕ) (rs : Draft Fiber) (fs : List Frame) (d : Draft Fiber) (us : Flags) → IsAround c k n rs fs → above_list l ≡ above_list k → IsFlagged c l d us
      → (u : Outer) → nearest_catch l ≡ Some u → CaughtOut c u (thrown_past fs us)
  goes_past c _ l _ _ _ d us surround.at_root same is u near =
      absurd (let e = sym near ∙ (nearest_above is_guarding l ∙ ap nearest_catch same) in let n : ⊥ = cc in n)
  goes_past c k l n rs (f ∷ fs) d us (surround.inside before behind list) same is u near =
      list_past c k l _ f.node f.contexts fs d us list same is u near

  list_past : (c : Shape Fiber) (k l : Around Fiber) (q : ℕ) (x : Open) (cs : Contexts) (fs : List Frame) (d : Draft Fiber) (us : Flags) → IsListOf c k q x cs fs → above_list l ≡ above_list k → IsFlagged c l d us
      → (u : Outer) → nearest_catch l ≡ Some u → CaughtOut c u (thrown_by x us (thrown_past fs (outer us)))
  list_past c k l q x cs fs d us (of_node {k₁ = k₁} {v = v} {o = o} {rest = rest} above opened own around) same is u near =
      let out = around_is c l d us (above_list k) same is q v o rest k₁ above in
      open_throws c (moved_along c k₁) (given_along fs) v o cs x opened q rest k₁ us (thrown_past fs (outer us)) u out (sym (ap nearest_catch (same ∙ above)) ∙ (sym (nearest_above is_guarding l) ∙ near))
      (λ further. goes_past c k₁ k₁ v.place rest fs rest (outer us) around refl out.0 u further)
  list_past c k l q _ cs fs d us (of_fallback {k₁ = k₁} {b = b} {v = v} {w = w} {o = o} {p = p} {kept = kept} {rest = rest} above kept_as own behind around) same is u near =
      let out = around_is c l d us (above_list k) same is q w p rest (after b v o (taken kept) k₁) above in
      let st = kept_as.stage in
      let further : nearest_catch (below q w p rest (after b v o (taken kept) k₁)) ≡ Some u = sym (ap nearest_catch (same ∙ above)) ∙ (sym (nearest_above is_guarding l) ∙ near) in
      goes_past c k₁ k₁ v.place rest fs rest (outer us) around refl (ahead c k₁ rest (outer us) b v o (taken kept) out.0) u (rw st at further)

pub throws_out : (t new : Trees Fiber) (st : Stack) (p : ℕ) (kids : Draft Fiber) (fs : List Frame) (us : Flags) → Fits t → (h : FlagsHere t p kids us) → IsWithin t st p fs
    → (u : Outer) → nearest_catch h.around ≡ Some u → new.draft ≡ placed u.around (made u.id u.value u.old (taken shapes.none) u.rest) → new.current ≡ t.current → HasThrown new u.id fs us
throws_out t new st p kids fs us fits h w u near here current =
    let same : h.around ≡ w.around = same_around t fits p h.around h.value h.old kids h.rest h.here w.around w.value w.old w.kids w.rest w.here in
    let out = goes_past t.current w.beside h.around w.place w.later fs h.rest us w.surrounds (ap above_list same ∙ w.same_list) h.flagged u near in
    record {
      flags = record { around = u.around; value = u.value; old = u.old; rest = u.rest; here = here; flagged = subst (λ c. IsFlagged c u.around u.rest (outer (thrown_past fs us))) (sym current) out.flagged };
      some = out.some;
    }
