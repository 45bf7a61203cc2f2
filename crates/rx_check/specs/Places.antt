-- Where the declarations of a kind stand among all of a program.
use Rattle.std.specs.Prelude.{◌≡◌, ℕ, List, map, Option, Some, slice_get, filter_map}
use Rattle.std.specs.Option.{option_and_then}
use Rattle.rx_ast.specs.Syntax.{Declaration}

-- what of a kind stands at a place among these declarations
abbrev pub declared_at : {A : Type 0} → (kind : Declaration → Option A) → List Declaration → (place : ℕ) → Option A
declared_at kind ds place = option_and_then kind (slice_get ds place)

-- these are the places of all declarations of a kind, in their order
abbrev pub ArePlaces : {A : Type 0} → (kind : Declaration → Option A) → List Declaration → List ℕ → Type 0
ArePlaces kind ds places = map (declared_at kind ds) places ≡ map Some (filter_map kind ds)
