-- The placements of hosts, from the last to the first.
use Rattle.std.proofs.Common.{◌≡◌, ℕ, ◌-◌, ◌<◌, ◌≤◌, Bool, true, false, not, ◌&&◌, cond, List, [], ◌∷◌, ◌++◌, Option, Some, option_map, length, get_or, drop, reverse, refl, sym, ap, ◌∙◌, nat_eq}
use Rattle.std.proofs.lemmas.List.{reverse-append}
use Rattle.std.specs.List.{find}
use Rattle.rx_forest.specs.declared.op.HostOp.{HostOp}
use Rattle.rx_forest.specs.declared.op.HostOp.TheVariants as op
use Rattle.rx_forest.specs.Hosts.{Host}
use Rattle.rx_forest.specs.HostOps.{is_placed, next_standing, placements}
use Rattle.rx_host_ops.proofs.Sorting.{front-before}

-- what is known from a place on: the placements, last first, and below each parent the next child that isn't placed
abbrev pub KnowsBehind : (placed : List ℕ) → (hosts : List Host) → ℕ → List HostOp → (ℕ → Option ℕ) → Type 0
KnowsBehind placed hosts p ops standing = (reverse ops ≡ placements placed (drop p hosts)) × ((q : ℕ) → standing q ≡ next_standing placed q (drop p hosts))

-- a placed host is passed over
standing-placed : (placed : List ℕ) (q : ℕ) (h : Host) (hs : List Host) → is_placed placed h.number ≡ true → next_standing placed q (h ∷ hs) ≡ next_standing placed q hs
standing-placed placed q h hs e = ap (λ b. option_map (λ h. h.number) (cond (nat_eq h.parent q && not b) (Some h) rest)) e ∙ go (nat_eq h.parent q)
  where
    rest : Option Host
    rest = find (λ h. nat_eq h.parent q && not (is_placed placed h.number)) hs

    go : (b : Bool) → option_map (λ h. h.number) (cond (b && false) (Some h) rest) ≡ next_standing placed q hs
    go true = refl
    go false = refl

-- another one is the next of its parent
standing-other : (placed : List ℕ) (q : ℕ) (h : Host) (hs : List Host) → is_placed placed h.number ≡ false → next_standing placed q (h ∷ hs) ≡ cond (nat_eq h.parent q) (Some h.number) (next_standing placed q hs)
standing-other placed q h hs e = ap (λ b. option_map (λ h. h.number) (cond (nat_eq h.parent q && not b) (Some h) rest)) e ∙ go (nat_eq h.parent q)
  where
    rest : Option Host
    rest = find (λ h. nat_eq h.parent q && not (is_placed placed h.number)) hs

    go : (b : Bool) → option_map (λ h. h.number) (cond (b && true) (Some h) rest) ≡ cond b (Some h.number) (next_standing placed q hs)
    go true = refl
    go false = refl

-- a placed host more
pub behind-placed : (placed : List ℕ) (hosts : List Host) (p : ℕ) (h : Host) (ops after : List HostOp) (standing : ℕ → Option ℕ) (before : Option ℕ) → 0 < p → p ≤ length hosts → h ≡ get_or hosts (p - 1) h
    → is_placed placed h.number ≡ true → before ≡ standing h.parent → after ≡ ops ++ op.Place h.number h.parent before ∷ [] → KnowsBehind placed hosts p ops standing → KnowsBehind placed hosts (p - 1) after standing
behind-placed placed hosts p h ops after standing before low high e is f g k = (
  ap reverse g
      ∙ reverse-append ops (op.Place h.number h.parent before ∷ [])
      ∙ ap (λ xs. op.Place h.number h.parent before ∷ xs) k.0
      ∙ ap (λ b. op.Place h.number h.parent b ∷ placements placed (drop p hosts)) (f ∙ k.1 h.parent)
      ∙ sym (ap (placements placed) (front-before hosts p h low high e) ∙ ap (λ b. cond b (op.Place h.number h.parent (next_standing placed h.parent (drop p hosts)) ∷ placements placed (drop p hosts)) (placements placed (drop p hosts))) is),
  λ q. k.1 q ∙ sym (ap (next_standing placed q) (front-before hosts p h low high e) ∙ standing-placed placed q h (drop p hosts) is),
)

-- another host more
pub behind-other : (placed : List ℕ) (hosts : List Host) (p : ℕ) (h : Host) (ops : List HostOp) (standing after : ℕ → Option ℕ) → 0 < p → p ≤ length hosts → h ≡ get_or hosts (p - 1) h
    → is_placed placed h.number ≡ false → ((q : ℕ) → after q ≡ cond (nat_eq h.parent q) (Some h.number) (standing q)) → KnowsBehind placed hosts p ops standing → KnowsBehind placed hosts (p - 1) ops after
behind-other placed hosts p h ops standing after low high e is f k = (
  k.0 ∙ sym (ap (placements placed) (front-before hosts p h low high e) ∙ ap (λ b. cond b (op.Place h.number h.parent (next_standing placed h.parent (drop p hosts)) ∷ placements placed (drop p hosts)) (placements placed (drop p hosts))) is),
  λ q. f q ∙ ap (cond (nat_eq h.parent q) (Some h.number)) (k.1 q) ∙ sym (ap (next_standing placed q) (front-before hosts p h low high e) ∙ standing-other placed q h (drop p hosts) is),
)
