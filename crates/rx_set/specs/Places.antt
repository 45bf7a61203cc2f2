-- Where the members of a set are noted to stand.
use Rattle.std.specs.Prelude.{◌≡◌, ℕ, suc, List, [], ◌∷◌, Option, Some, None, cond, length, nat_eq, nat_lt, option_map, slice_get}
use Rattle.std.specs.HashMap.{get}
use Rattle.rx_set.specs.declared.places.Places.{Places}

-- the place that is noted for a number, if one is
abbrev pub place_of : Places → ℕ → Option ℕ
place_of places n = cond (nat_lt n 16384) (slice_get places.near.items n) (get nat_eq places.far n)

-- the first place at which a number stands in a list
abbrev pub first_place : (members : List ℕ) → ℕ → Option ℕ
first_place [] n = None
first_place (x ∷ xs) n = cond (nat_eq x n) (Some 0) (option_map suc (first_place xs n))

-- where a number is looked for: at the first place of a few members, and else where it is noted
abbrev pub place_in : (members : List ℕ) → Places → ℕ → Option ℕ
place_in members places n = cond (nat_lt 8 (length members)) (place_of places n) (first_place members n)

-- for each member its place is noted
abbrev pub AreNoted : (place_of : ℕ → Option ℕ) → (members : List ℕ) → Type 0
AreNoted place_of members = (i n : ℕ) → slice_get members i ≡ Some n → place_of n ≡ Some i
