-- The values of the contexts at a place of a tree (react.dev, useContext).
use Rattle.std.specs.Ordering.{int_eq}
use Rattle.std.specs.Prelude.{ℕ, List, [], ◌∷◌, ℤ, Bool, true, false, not, ◌&&◌, ◌||◌, pos, find, nat_eq, Option, Some, None, option_map, unwrap_or, slice_index_or, slice_set, if◌then◌else◌}

-- the defaults of the contexts; what the providers around a place give, the nearest first; and for each of them, whether it gives another value than its old node gave
pub record Stack : Type 0 where
  pub defaults : List ℤ
  pub given : List (ℕ × ℤ)
  pub moves : List (ℕ × Bool)

-- no provider stands above
abbrev pub opening : (defaults : List ℤ) → Stack
opening defaults = record { defaults = defaults; given = []; moves = [] }

-- below a provider
abbrev pub below : (context : ℕ) → (given : ℤ) → (moves : Bool) → Stack → Stack
below c x b s = record s { given = (c, x) ∷ s.given; moves = (c, b) ∷ s.moves }

-- what a context is at the place: what its nearest provider gives, else its default
abbrev pub value_at : Stack → (context : ℕ) → ℤ
value_at s c =
    unwrap_or (option_map (λ p. p.1) (find (λ p. nat_eq p.0 c) s.given)) (slice_index_or s.defaults c (pos 0))

-- the defaults, changed by providers from the outermost on
abbrev pub changed_by : List (ℕ × ℤ) → (defaults : List ℤ) → List ℤ
changed_by [] defaults = defaults
changed_by (p ∷ given) defaults = slice_set (changed_by given defaults) p.0 p.1

-- the values of all contexts at the place, by their numbers
abbrev pub values_at : Stack → List ℤ
values_at s = changed_by s.given s.defaults

-- Contexts with other values

-- a context is one of these
abbrev pub is_among : ℕ → List ℕ → Bool
is_among c [] = false
is_among c (d ∷ ds) = nat_eq d c || is_among c ds

-- the contexts but one
abbrev pub all_but : ℕ → List ℕ → List ℕ
all_but c [] = []
all_but c (d ∷ ds) = if nat_eq d c then all_but c ds else d ∷ all_but c ds

-- the contexts that have another value below a provider than below its old node, by those at the provider: it adds its context if it gives that another value, and else takes it away
abbrev pub moved_by : (context : ℕ) → (moves : Bool) → (moved : List ℕ) → List ℕ
moved_by c b moved = if b then c ∷ all_but c moved else all_but c moved

-- the same below several providers, the nearest first
abbrev pub moved_in : List (ℕ × Bool) → List ℕ
moved_in [] = []
moved_in (p ∷ ps) = moved_by p.0 p.1 (moved_in ps)

-- the contexts that have another value at the place than at the old one
abbrev pub moved_at : Stack → List ℕ
moved_at s = moved_in s.moves

-- no context has
abbrev pub none_moved : (moved : List ℕ) → Bool
none_moved [] = true
none_moved (c ∷ moved) = false

-- both give nothing, or one context the same value
abbrev pub same_given : Option (ℕ × ℤ) → Option (ℕ × ℤ) → Bool
same_given None None = true
same_given None (Some w) = false
same_given (Some v) None = false
same_given (Some v) (Some w) = nat_eq v.0 w.0 && int_eq v.1 w.1

-- what a node adds to these, if this is what it gives, and that is what its old node gave
abbrev pub moves_by : (gives gave : Option (ℕ × ℤ)) → List (ℕ × Bool) → List (ℕ × Bool)
moves_by None w ps = ps
moves_by (Some v) w ps = (v.0, not (same_given (Some v) w)) ∷ ps
