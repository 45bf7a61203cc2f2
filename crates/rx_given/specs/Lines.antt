-- The lines of a given report.
use Rattle.std.specs.Prelude.{◌≡◌, ℕ, suc, Bool, List, [], ◌∷◌, Option, Some, None, filter, length, nat_eq, option_map, if◌then◌else◌}
use Rattle.std.specs.List.{AllByRecursion}

-- a byte ends a line
abbrev pub is_line_end : ℕ → Bool
is_line_end b = nat_eq b 10

-- how many lines end in some bytes
abbrev pub ends_in : List ℕ → ℕ
ends_in bytes = length (filter is_line_end bytes)

-- how many bytes two texts share at their front
abbrev pub shared : (some others : List ℕ) → ℕ
shared [] ys = 0
shared (x ∷ xs) [] = 0
shared (x ∷ xs) (y ∷ ys) = if nat_eq x y then suc (shared xs ys) else 0

-- the first whole line of some bytes, with its end
abbrev pub first_line : List ℕ → Option (List ℕ)
first_line [] = None
first_line (b ∷ bs) = if is_line_end b then Some (b ∷ []) else option_map (λ l. b ∷ l) (first_line bs)

-- none of some bytes is this one
abbrev pub HasNo : (byte : ℕ) → List ℕ → Type 0
HasNo b bytes = AllByRecursion (λ c. c ≡ b → ⊥) bytes
