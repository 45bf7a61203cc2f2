-- The placements of a commit, told by the hosts beside those that are placed.
use Rattle.std.specs.Prelude.{◌≡◌, ℕ, Bool, true, false, List, [], ◌∷◌, nat_eq, refl}
use Rattle.std.proofs.Common.{ap, ◌∙◌}
use Rattle.std.proofs.lemmas.Bool.Decides.{Decides-eqb}
use Rattle.rx_forest.specs.Hosts.{Host}
use Rattle.rx_forest.specs.HostOps.{is_placed, next_standing, placements}
use Rattle.rx_forest.specs.declared.op.HostOp.TheVariants as op
use Rattle.host_laws.specs.Siblings.{with_parents, HasPlacedParents}

-- the next sibling that stands is among the hosts with the same parent
next_told : (placed : List ℕ) (parents : ℕ → Bool) (q : ℕ) → parents q ≡ true → (hs : List Host)
    → next_standing placed q (with_parents parents hs) ≡ next_standing placed q hs
next_told placed parents q among [] = refl
next_told placed parents q among (h ∷ hs) =
    go (next_told placed parents q among hs) (parents h.parent) refl (nat_eq h.parent q) refl (is_placed placed h.number) refl
  where
    go : next_standing placed q (with_parents parents hs) ≡ next_standing placed q hs
        → (a : Bool) → parents h.parent ≡ a → (b : Bool) → nat_eq h.parent q ≡ b → (c : Bool) → is_placed placed h.number ≡ c
        → next_standing placed q (with_parents parents (h ∷ hs)) ≡ next_standing placed q (h ∷ hs)
    go rest true e true f true g = rw (e, f, g) rest
    go rest true e true f false g = rw (e, f, g) refl
    go rest true e false f c g = rw (e, f) rest
    go rest false e true f c g = let same : h.parent ≡ q = (Decides-eqb h.parent q).0 f in absurd (cc (ap parents same))
    go rest false e false f c g = rw (e, f) rest

-- the placements are the same if only the hosts are listed whose parents are those of placed hosts
pub siblings_tell : (placed : List ℕ) (parents : ℕ → Bool) (hs : List Host) → HasPlacedParents placed parents hs
    → placements placed (with_parents parents hs) ≡ placements placed hs
siblings_tell placed parents [] among = refl
siblings_tell placed parents (h ∷ hs) among =
    go (siblings_tell placed parents hs among.1) (is_placed placed h.number) refl (parents h.parent) refl
  where
    go : placements placed (with_parents parents hs) ≡ placements placed hs
        → (a : Bool) → is_placed placed h.number ≡ a → (b : Bool) → parents h.parent ≡ b
        → placements placed (with_parents parents (h ∷ hs)) ≡ placements placed (h ∷ hs)
    go rest true e true f =
        rw (f, e) (ap (λ n. op.Place h.number h.parent n ∷ placements placed (with_parents parents hs)) (next_told placed parents h.parent f hs)
        ∙ ap (λ ops. op.Place h.number h.parent (next_standing placed h.parent hs) ∷ ops) rest)
    go rest true e false f = absurd (cc (among.0 e))
    go rest false e true f = rw (f, e) rest
    go rest false e false f = rw (f, e) rest
