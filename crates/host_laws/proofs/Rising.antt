-- Which children moved, by the greatest old place so far.
use Rattle.std.specs.Prelude.{◌≡◌, ℕ, ◌+◌, Bool, false, ◌||◌, List, [], ◌∷◌, Option, Some, None, max, nat_lt, nat_eq, refl}
use Rattle.std.specs.Option.{option_map_or}
use Rattle.std.specs.List.{list_any}
use Rattle.std.proofs.Common.{◌∙◌, ap, arith}
use Rattle.std.proofs.lemmas.Bool.Decides.{nat_tests}
use Rattle.rx_elem.specs.Identity.{moves, moves_after}

-- a place is this one
abbrev pub is_at : ℕ → Option ℕ → Bool
is_at p q = option_map_or (nat_eq p) q false

-- whether each child moved, by a number that is one more than the greatest old place so far
abbrev pub moves_below : ℕ → List (Option ℕ) → List Bool
moves_below top [] = []
moves_below top (None ∷ ps) = false ∷ moves_below top ps
moves_below top (Some p ∷ ps) = nat_lt (p + 1) top ∷ moves_below (max top (p + 1)) ps

-- the number that is one more than the greatest place
abbrev top_of : List ℕ → ℕ
top_of [] = 0
top_of (p ∷ ps) = max (top_of ps) (p + 1)

passed_by_top : (earlier : List ℕ) (p : ℕ) → list_any (nat_lt p) earlier ≡ nat_lt (p + 1) (top_of earlier)
passed_by_top [] p = grind (arith, nat_tests)
passed_by_top (q ∷ earlier) p = ap (λ b. nat_lt p q || b) (passed_by_top earlier p) ∙ one (top_of earlier)
  where
    one : (t : ℕ) → (nat_lt p q || nat_lt (p + 1) t) ≡ nat_lt (p + 1) (max t (q + 1))
    one t = grind (arith, nat_tests)

moves_are : (earlier : List ℕ) (places : List (Option ℕ)) → moves_after earlier places ≡ moves_below (top_of earlier) places
moves_are earlier [] = refl
moves_are earlier (None ∷ ps) = ap (λ bs. false ∷ bs) (moves_are earlier ps)
moves_are earlier (Some p ∷ ps) = rw (passed_by_top earlier p, moves_are (p ∷ earlier) ps) refl

-- the moves, by the greatest old place so far
pub moves_rise : (places : List (Option ℕ)) → moves places ≡ moves_below 0 places
moves_rise = moves_are []
