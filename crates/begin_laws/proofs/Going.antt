-- Where flags go.
use Rattle.std.specs.Prelude.{◌≡◌, ℕ, ◌&&◌, ◌∷◌, Option, Some, None}
use Rattle.std.proofs.Common.{refl, sym, ap, ◌∙◌, subst}
use Rattle.rx_ctx.specs.Contexts.{Stack, moved_at, moved_in, none_moved}
use Rattle.rx_lists.specs.Shapes.{Shape}
use Rattle.rx_lists.specs.Shapes as shapes
use Rattle.rx_links.specs.Drafts.{Draft, taken, made, Trees, Fits, entry, valued}
use Rattle.rx_links.specs.Places.{Around, top, below, after, placed, up_of}
use Rattle.rx_links.proofs.Placed.{is-at}
use Rattle.rx_fiber.specs.Fibers.{Fiber, is_visible}
use Rattle.rx_fiber.specs.Standing.{is_stood}
use Rattle.rx_fiber.specs.Surround.{above_list, moved_along, moves_along}
use Rattle.rx_fiber.proofs.Arriving.{moves_above}
use Rattle.rx_fiber.proofs.Completing.{whole_list, placed_list}
use Rattle.rx_complete.specs.Ends.{next_by, next_after}
use Rattle.rx_complete.proofs.Leading.{next_is}
use Rattle.cost_laws.specs.Evaluated.{Flag, stood}
use Rattle.cost_laws.specs.Left.{Flags, flag, outer}
use Rattle.begin_laws.specs.Flagged.{AllBare, AreTold, IsTold, KeepsTold, IsFlagged, at_root, inside, FlagsHere, FlagsAtPlace, FlagsAtEnd, FlagsAfter, FlagsOpened}
use Rattle.begin_laws.proofs.Once.{same_around}

-- the flags of a list are those behind one more of its fibers
behind : (c : Shape Fiber) (k : Around Fiber) (d : Draft Fiber) (us : Flags) (id : ℕ) (v : Fiber) (o : Option ℕ) (ks : Draft Fiber) → IsFlagged c k d us → IsFlagged c (after id v o ks k) d us
behind c k d _ id v o ks (at_root up bare told) = at_root up bare told
behind c k d _ id v o ks (inside up keeps moved bare told out) = inside up keeps moved bare told out

-- the flag of a list knows the contexts that have moved there
pub flagged_moved : (c : Shape Fiber) (k : Around Fiber) (d : Draft Fiber) (us : Flags) → IsFlagged c k d us → (flag us).moved ≡ moved_along c k
flagged_moved c k d _ (at_root up bare told) = sym (ap moved_in (moves_above c k ∙ ap (moves_along c) up))
flagged_moved c k d _ (inside up keeps moved bare told out) = moved

-- the first of the fibers that follow is one of the list
pub first_told : (c : Shape Fiber) (k : Around Fiber) (us : Flags) (id : ℕ) (v : Fiber) (o : Option ℕ) (ks rs : Draft Fiber) → IsFlagged c k (made id v o ks rs) us → IsTold (flag us) v
first_told c k _ id v o ks rs (at_root up bare told) = told.0
first_told c k _ id v o ks rs (inside up keeps moved bare told out) = told.0

first_bare : (c : Shape Fiber) (k : Around Fiber) (us : Flags) (id : ℕ) (v : Fiber) (o : Option ℕ) (ks rs : Draft Fiber) → IsFlagged c k (made id v o ks rs) us → ks ≡ taken shapes.none
first_bare c k _ id v o ks rs (at_root up bare told) = bare.0
first_bare c k _ id v o ks rs (inside up keeps moved bare told out) = bare.0

-- and so are those behind it
first_past : (c : Shape Fiber) (k : Around Fiber) (us : Flags) (id : ℕ) (v : Fiber) (o : Option ℕ) (ks rs : Draft Fiber) → IsFlagged c k (made id v o ks rs) us → IsFlagged c k rs us
first_past c k _ id v o ks rs (at_root up bare told) = at_root up bare.1 told.1
first_past c k _ id v o ks rs (inside up keeps moved bare told out) = inside up keeps moved bare.1 told.1 out

no_more : (c : Shape Fiber) (k : Around Fiber) (us : Flags) (s : Shape Fiber) → IsFlagged c k (taken s) us → s ≡ shapes.none
no_more c k _ s (at_root up bare told) = bare
no_more c k _ s (inside up keeps moved bare told out) = bare

-- the fiber above a list
record Upper (k : Around Fiber) (i : ℕ) : Type 0 where
  pub around : Around Fiber
  pub value : Fiber
  pub old : Option ℕ
  pub rest : Draft Fiber
  pub up : above_list k ≡ below i value old rest around

upper : (k : Around Fiber) (i : ℕ) → up_of k ≡ Some i → Upper k i
upper top i e = absurd (let q : ⊥ = cc in q)
upper (below id v o rs k) i e =
    let s : id ≡ i = cc in
    record { around = k; value = v; old = o; rest = rs; up = ap (λ x. below x v o rs k) s }
upper (after id v o ks k) i e =
    let u = upper k i e in
    record { around = u.around; value = u.value; old = u.old; rest = u.rest; up = u.up }

-- a list begins, or has come to its end: the render is at its first fiber, or completes the one above
at_first : (t : Trees Fiber) (k : Around Fiber) (us : Flags) (id : ℕ) (v : Fiber) (o : Option ℕ) (ks rs : Draft Fiber) → t.draft ≡ placed k (made id v o ks rs) → IsFlagged t.current k (made id v o ks rs) us
    → FlagsAtPlace t id us
at_first t k us id v o ks rs here is = record {
  flags = record {
    around = k;
    value = v;
    old = o;
    rest = rs;
    here = here ∙ ap (λ x. placed k (made id v o x rs)) (first_bare t.current k us id v o ks rs is);
    flagged = first_past t.current k us id v o ks rs is;
  };
  told = first_told t.current k us id v o ks rs is;
}

at_last : (t : Trees Fiber) (k : Around Fiber) (us : Flags) (s : Shape Fiber) (i : ℕ) → Upper k i → t.draft ≡ placed k (taken s) → IsFlagged t.current k (taken s) us → FlagsAtEnd t i us
at_last t k us s i u here is =
    let e = no_more t.current k us s is in
    record {
      inner = k;
      here = here ∙ ap (λ x. placed k (taken x)) e;
      around = u.around;
      value = u.value;
      old = u.old;
      rest = u.rest;
      up = u.up;
      flagged = subst (λ x. IsFlagged t.current k (taken x) us) e is;
    }

-- a fiber that begins tells whether its place stood, as the flag of its list does
pub told_stood : (t : Trees Fiber) (st : Stack) (id : ℕ) (us : Flags) → Fits t → FlagsAtPlace t id us → (k : Around Fiber) (v : Fiber) (o : Option ℕ) (rs : Draft Fiber)
    → t.draft ≡ placed k (made id v o (taken shapes.none) rs) → st.moves ≡ moves_along t.current k → is_stood st v.stage ≡ stood (flag us)
told_stood t st id us fits h k v o rs here moves =
    let l = (is-at t fits h.flags.around id h.flags.value h.flags.old (taken shapes.none) h.flags.rest h.flags.here).list in
    let m = (is-at t fits k id v o (taken shapes.none) rs here).list in
    let both : Some (made id h.flags.value h.flags.old (taken shapes.none) h.flags.rest) ≡ Some (made id v o (taken shapes.none) rs) = sym l ∙ m in
    let same : h.flags.value ≡ v = cc in
    let around : h.flags.around ≡ k = same_around t fits id h.flags.around h.flags.value h.flags.old (taken shapes.none) h.flags.rest h.flags.here k v o (taken shapes.none) rs here in
    let moved : (flag us).moved ≡ moved_at st =
    flagged_moved t.current h.flags.around h.flags.rest us h.flags.flagged ∙ (ap (moved_along t.current) around ∙ ap moved_in (sym moves))
    in
    ap (λ b. b && none_moved (moved_at st)) (ap (λ u. is_visible u.stage) (sym same) ∙ h.told) ∙ ap (λ ms. (flag us).visible && none_moved ms) (sym moved)

-- a node is done: the render comes to what follows it in its list
pub after_node : (t : Trees Fiber) (k : Around Fiber) (q : ℕ) (v : Fiber) (o : Option ℕ) (kids rest : Draft Fiber) (us : Flags) → t.draft ≡ placed k (made q v o kids rest) → IsFlagged t.current k rest us
    → FlagsAfter t us (next_by (entry rest) (up_of k))
after_node t k q v o kids (made id w p ks rs) us here is = at_first t (after q v o kids k) us id w p ks rs here (behind t.current k (made id w p ks rs) us q v o kids is)
after_node t k q v o kids (taken s) us here is =
    subst (λ x. FlagsAfter t us (next_by (entry (taken x)) (up_of k))) (sym none) (by_up (up_of k) refl)
  where
    none : s ≡ shapes.none
    none = no_more t.current k us s is

    by_up : (u : Option ℕ) → up_of k ≡ u → FlagsAfter t us (next_by None u)
    by_up None e = tt
    by_up (Some i) e = at_last t (after q v o kids k) us s i (upper (after q v o kids k) i e) here (behind t.current k (taken s) us q v o kids is)

pub passes : (t : Trees Fiber) (q : ℕ) (kids : Draft Fiber) (us : Flags) → Fits t → FlagsHere t q kids us → FlagsAfter t us (next_after t.draft q)
passes t q kids us fits h =
    subst (FlagsAfter t us) (sym (next_is t h.around q h.value h.old kids h.rest (is-at t fits h.around q h.value h.old kids h.rest h.here)))
    (after_node t h.around q h.value h.old kids h.rest us h.here h.flagged)

-- the flags around the node whose list is done
outside_end : (c : Shape Fiber) (k : Around Fiber) (us : Flags) (q : ℕ) (v : Fiber) (o : Option ℕ) (rest : Draft Fiber) (around : Around Fiber) (d : Draft Fiber) → above_list k ≡ below q v o rest around → IsFlagged c k d us
    → IsFlagged c around rest (outer us)
outside_end c k _ q v o rest around d up (at_root at bare told) = absurd (let e = sym at ∙ up in let n : ⊥ = cc in n)
outside_end c k _ q v o rest around d up (inside {k₁ = l} {rest = ls} {us = us} at keeps moved bare told out) =
    let e = sym at ∙ up in
    let a : l ≡ around = cc in
    let b : ls ≡ rest = cc in
    subst (λ x. IsFlagged c x rest us) a (subst (λ x. IsFlagged c l x us) b out)

pub completes : (t new : Trees Fiber) (q : ℕ) (us : Flags) (m : Fiber → Fiber) → Fits t → FlagsAtEnd t q us → new.draft ≡ valued q m t.draft → new.current ≡ t.current → FlagsAfter new (outer us) (next_after t.draft q)
completes t new q us m fits h e same =
    let kids : Draft Fiber = whole_list h.inner (taken shapes.none) in
    let here : t.draft ≡ placed h.around (made q h.value h.old kids h.rest) =
    h.here ∙ (placed_list h.inner (taken shapes.none) ∙ ap (λ k. placed k kids) h.up)
    in
    let at = is-at t fits h.around q h.value h.old kids h.rest here in
    subst (FlagsAfter new (outer us)) (sym (next_is t h.around q h.value h.old kids h.rest at))
    (after_node new h.around q (m h.value) h.old kids h.rest (outer us) (e ∙ at.value m)
    (subst (λ c. IsFlagged c h.around h.rest (outer us)) (sym same) (outside_end t.current h.inner us q h.value h.old h.rest h.around (taken shapes.none) h.up h.flagged)))

-- a fiber is opened over a list
open_at : (new : Trees Fiber) (k : Around Fiber) (p : ℕ) (v : Fiber) (o : Option ℕ) (kids rest : Draft Fiber) (u : Flag) (us : Flags) → new.draft ≡ placed k (made p v o kids rest) → KeepsTold (flag us) v → IsFlagged new.current k rest us
    → u.moved ≡ moved_along new.current (below p v o rest k) → AllBare kids → AreTold u kids → FlagsOpened new p (u ∷ us) (entry kids)
open_at new k p v o (made id w q ks rs) rest u us here keeps out moved bare told =
    at_first new (below p v o rest k) (u ∷ us) id w q ks rs here (inside refl keeps moved bare told out)
open_at new k p v o (taken s) rest u us here keeps out moved bare told =
    subst (λ x. FlagsOpened new p (u ∷ us) (entry (taken x))) (sym bare)
    (at_last new (below p v o rest k) (u ∷ us) s p (record { around = k; value = v; old = o; rest = rest; up = refl }) here (inside refl keeps moved bare told out))

pub opens : (t new : Trees Fiber) (p : ℕ) (us : Flags) (u : Flag) (kids : Draft Fiber) (m : Fiber → Fiber) → FlagsHere t p (taken shapes.none) us
    → ((k : Around Fiber) (v : Fiber) (o : Option ℕ) (rs : Draft Fiber) → t.draft ≡ placed k (made p v o (taken shapes.none) rs) → (new.draft ≡ placed k (made p (m v) o kids rs)) × KeepsTold (flag us) (m v) × (u.moved ≡ moved_along t.current (below p (m v) o rs k)))
    → new.current ≡ t.current → AllBare kids → AreTold u kids → FlagsOpened new p (u ∷ us) (entry kids)
opens t new p us u kids m h stands same bare told =
    let there = stands h.around h.value h.old h.rest h.here in
    open_at new h.around p (m h.value) h.old kids h.rest u us there.0 there.1 (subst (λ c. IsFlagged c h.around h.rest us) (sym same) h.flagged)
    (there.2 ∙ ap (λ c. moved_along c (below p (m h.value) h.old h.rest h.around)) (sym same)) bare told

pub opens_beside : (t new : Trees Fiber) (p id : ℕ) (us : Flags) (u : Flag) (kids : Draft Fiber) (m : Fiber → Fiber) (w : Fiber) (old : Option ℕ) (kept : Option ℕ → Shape Fiber)
    → FlagsHere t p (taken shapes.none) us
    → ((k : Around Fiber) (v : Fiber) (o : Option ℕ) (rs : Draft Fiber) → t.draft ≡ placed k (made p v o (taken shapes.none) rs)
    → (new.draft ≡ placed k (made p (m v) o (taken (kept o)) (made id w old kids rs))) × (u.moved ≡ moved_along t.current (below id w old rs k)))
    → new.current ≡ t.current → KeepsTold (flag us) w → AllBare kids → AreTold u kids → FlagsOpened new id (u ∷ us) (entry kids)
opens_beside t new p id us u kids m w old kept h stands same keeps bare told =
    let there = stands h.around h.value h.old h.rest h.here in
    open_at new (after p (m h.value) h.old (taken (kept h.old)) h.around) id w old kids h.rest u us there.0 keeps
    (behind new.current h.around h.rest us p (m h.value) h.old (taken (kept h.old)) (subst (λ c. IsFlagged c h.around h.rest us) (sym same) h.flagged))
    (there.1 ∙ ap (λ c. moved_along c (below id w old h.rest h.around)) (sym same)) bare told
