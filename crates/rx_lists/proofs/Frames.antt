-- What reading the nodes sees, and what a change elsewhere leaves of it.
use Rattle.std.proofs.Common.{◌≡◌, ◌≢◌, ℕ, Bool, true, false, eqb, inl, inr, ap, ◌∙◌, refl, eqb-true, Some, None, Option, option_map, IsSome, zero, suc, ◌⊎◌, ◌≤◌, ◌||◌, eq-eqb, arith, IfSome}
use Rattle.rx_arena.specs.Nodes.{at, Changes}
use Rattle.rx_arena.specs.declared.arena.Node.{Node}
use Rattle.rx_lists.specs.Links.{child_in, child_at}
use Rattle.rx_lists.specs.Reads.{Nodes, Core, core, core_of, core_at, up_at, Reads, Returns, shape_of}
use Rattle.rx_lists.specs.Shapes.{Shape, none, fiber, first, Holds, holds, size}

pub same_or_not : (a b : ℕ) → (a ≡ b) ⊎ (a ≢ b)
same_or_not a b = by_test (eqb a b) refl
  where
    by_test : (s : Bool) → eqb a b ≡ s → (a ≡ b) ⊎ (a ≢ b)
    by_test true e = inl (eqb-true a b e)
    by_test false e = inr (λ h. let t = eq-eqb a b h in cc)

pub eqb-false : (a b : ℕ) → a ≢ b → eqb a b ≡ false
eqb-false a b h = by_test (eqb a b) refl
  where
    by_test : (s : Bool) → eqb a b ≡ s → s ≡ false
    by_test true e = absurd (h (eqb-true a b e))
    by_test false e = refl

pub some-at : {X : Type 0} (o : Option X) (P : X → Type 0) (x : X) → IfSome o P → o ≡ Some x → P x
some-at None P x h e = cc
some-at (Some y) P x h e = let q : y ≡ x = cc in rw q at h

pub if-some : {X : Type 0} (o : Option X) (P : X → Type 0) → ((x : X) → o ≡ Some x → P x) → IfSome o P
if-some None P h = tt
if-some (Some x) P h = h x refl

pub leads_or_not : (o : Option ℕ) (i : ℕ) → (o ≡ Some i) ⊎ (o ≢ Some i)
leads_or_not None i = inr (λ e. cc)
leads_or_not (Some j) i = elim (same_or_not j i) [ inl e ↦ inl (ap Some e) | inr n ↦ inr (λ e. n (let q : j ≡ i = cc in q)) ]

module _ {F : Type 0} where
  -- a list reads the same if no node of it changed
  pub Reads-frame : (old new : Nodes F) (s : Shape F) → ((i : ℕ) → Holds s i → core_at new i ≡ core_at old i) → Reads old s → Reads new s
  Reads-frame old new none same r = tt
  Reads-frame old new (fiber id v ks rs) same r = (
    same id (inl refl) ∙ r.0,
    Reads-frame old new ks (λ i h. same i (inr (inl h))) r.1,
    Reads-frame old new rs (λ i h. same i (inr (inr h))) r.2,
  )

  pub Returns-frame : (old new : Nodes F) (p : Option ℕ) (s : Shape F) → ((i : ℕ) → Holds s i → up_at new i ≡ up_at old i) → Returns old p s → Returns new p s
  Returns-frame old new p none same r = tt
  Returns-frame old new p (fiber id v ks rs) same r = (
    same id (inl refl) ∙ r.0,
    Returns-frame old new (Some id) ks (λ i h. same i (inr (inl h))) r.1,
    Returns-frame old new p rs (λ i h. same i (inr (inr h))) r.2,
  )

  pub core-live : (a : Nodes F) (i : ℕ) (k : Core F) → core_at a i ≡ Some k → IsSome (at a i)
  core-live a i k h = by_slot (at a i) refl
    where
      by_slot : (o : Option (Node F)) → at a i ≡ o → IsSome o
      by_slot None e = let q = ap (option_map core_of) e in cc
      by_slot (Some n) e = refl

  -- a fiber of a list has a node
  pub Reads-live : (a : Nodes F) (s : Shape F) (i : ℕ) → Reads a s → Holds s i → IsSome (at a i)
  Reads-live a none i r h = absurd h
  Reads-live a (fiber id v ks rs) i r (inl e) = rw e (core-live a id (core v (first ks) (first rs)) r.0)
  Reads-live a (fiber id v ks rs) i r (inr (inl h)) = Reads-live a ks i r.1 h
  Reads-live a (fiber id v ks rs) i r (inr (inr h)) = Reads-live a rs i r.2 h

  pub child-core : (a : Nodes F) (i : ℕ) (v : F) (c s : Option ℕ) → core_at a i ≡ Some (core v c s) → child_at a i ≡ c
  child-core a i v c s e = by_slot (at a i) refl
    where
      by_slot : (o : Option (Node F)) → at a i ≡ o → child_in o ≡ c
      by_slot None q = let x = ap (option_map core_of) q in cc
      by_slot (Some n) q = let x = ap (option_map core_of) q in cc

  pub shape_of-reads : (n : ℕ) (a : Nodes F) (s : Shape F) → Reads a s → size s ≤ n → shape_of n a (first s) ≡ s
  unfolding shape_of
  shape_of-reads zero a none r h = refl
  shape_of-reads (suc n) a none r h = refl
  shape_of-reads zero a (fiber id v ks rs) r h = absurd (omega arith)
  shape_of-reads (suc n) a (fiber id v ks rs) r h =
      rw (r.0, shape_of-reads n a ks r.1 (omega arith), shape_of-reads n a rs r.2 (omega arith)) refl

  pub holds-true : (c : Shape F) (i : ℕ) → Holds c i → holds c i ≡ true
  holds-true none i h = absurd h
  holds-true (fiber id v ks rs) i (inl e) = rw (eq-eqb i id e) refl
  holds-true (fiber id v ks rs) i (inr (inl h)) = rw (holds-true ks i h) (or-true (eqb i id))
    where
      or-true : (a : Bool) → (a || true) ≡ true
      or-true true = refl
      or-true false = refl
  holds-true (fiber id v ks rs) i (inr (inr h)) = rw (holds-true rs i h) (or-true (eqb i id) (holds ks i))
    where
      or-true : (a b : Bool) → (a || (b || true)) ≡ true
      or-true true b = refl
      or-true false true = refl
      or-true false false = refl

  pub holds-Holds : (c : Shape F) (i : ℕ) → holds c i ≡ true → Holds c i
  holds-Holds none i h = cc
  holds-Holds (fiber id v ks rs) i h = by_cases (eqb i id) refl (holds ks i) refl h (holds-Holds ks i) (holds-Holds rs i)
    where
      by_cases : (a : Bool) → eqb i id ≡ a → (b : Bool) → holds ks i ≡ b → (a || (b || holds rs i)) ≡ true → (holds ks i ≡ true → Holds ks i) → (holds rs i ≡ true → Holds rs i) → (i ≡ id) ⊎ (Holds ks i ⊎ Holds rs i)
      by_cases true e b f g k r = inl (eqb-true i id e)
      by_cases false e true f g k r = inr (inl (k f))
      by_cases false e false f g k r = inr (inr (r g))

  pub apart-false : (c : Shape F) (i : ℕ) → (Holds c i → ⊥) → holds c i ≡ false
  apart-false c i h = by_test (holds c i) refl
    where
      by_test : (b : Bool) → holds c i ≡ b → b ≡ false
      by_test true e = absurd (h (holds-Holds c i e))
      by_test false e = refl

  live-changes : (f : Node F → Node F) (o p : Option (Node F)) → p ≡ option_map f o → IsSome o → IsSome p
  live-changes f None p e h = cc
  live-changes f (Some n) p e h = rw e refl

  -- a change leaves each live id live
  pub change-live : (f : Node F → Node F) (old new : Nodes F) (id : ℕ) → Changes f old new id → (i : ℕ) → IsSome (at old i) → IsSome (at new i)
  change-live f old new id c i live = by_case (same_or_not i id)
    where
      by_case : (i ≡ id) ⊎ (i ≢ id) → IsSome (at new i)
      by_case (inl p) = rw p (live-changes f (at old id) (at new id) c.changed (rw p at live))
      by_case (inr p) = rw (c.others i p) live
