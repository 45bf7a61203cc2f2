-- What stands at the places of the declarations of a kind.
use Rattle.std.specs.Prelude.{◌≡◌, ℕ, zero, suc, List, [], ◌∷◌, ◌++◌, ◌+◌, map, filter_map, drop, Option, Some, None, slice_get, length}
use Rattle.std.specs.Option.{option_and_then}
use Rattle.std.proofs.Common.{arith, refl, sym, ap, ◌∙◌}
use Rattle.rx_ast.specs.Syntax.{Declaration, Component, Function, as_component, as_function}
use Rattle.rx_ast.specs.declared.declaration.DeclarationKind.{DeclarationKind}
use Rattle.rx_ast.specs.declared.declaration.DeclarationKind.TheVariants as kind
use Rattle.rx_ast.specs.ProgramView.{declaration_of}
use Rattle.rx_check.specs.Places.{declared_at}

-- what is left from a place on
dropped : (ds : List Declaration) (place : ℕ) (d : Declaration) → slice_get ds place ≡ Some d → drop place ds ≡ d ∷ drop (suc place) ds
dropped [] place d is = absurd (let q : ⊥ = cc in q)
dropped (x ∷ xs) zero d is = cc
dropped (x ∷ xs) (suc n) d is = dropped xs n d is

one_behind : (n : ℕ) → n + 1 ≡ suc n
one_behind n = omega (arith)

module _ {A : Type 0} (kind : Declaration → Option A) (ds : List Declaration) where
  -- the one of a number stands at its place, if there is one
  placed_at : (places : List ℕ) (xs : List A) → map (declared_at kind ds) places ≡ map Some xs → (n : ℕ) → slice_get xs n ≡ option_and_then kind (option_and_then (slice_get ds) (slice_get places n))
  placed_at [] [] e n = refl
  placed_at [] (x ∷ xs) e n = absurd (let q : ⊥ = cc in q)
  placed_at (q ∷ qs) [] e n = absurd (let f : ⊥ = cc in f)
  placed_at (q ∷ qs) (x ∷ xs) e zero = let front : declared_at kind ds q ≡ Some x = cc in sym front
  placed_at (q ∷ qs) (x ∷ xs) e (suc n) = placed_at qs xs (let rest : map (declared_at kind ds) qs ≡ map Some xs = cc in rest) n

  -- the same, if that declaration is known
  pub placed_as : (places : List ℕ) (xs : List A) → map (declared_at kind ds) places ≡ map Some xs → (n : ℕ) (o : Option Declaration) → option_and_then (slice_get ds) (slice_get places n) ≡ o
      → slice_get xs n ≡ option_and_then kind o
  placed_as places xs e n o is = placed_at places xs e n ∙ ap (option_and_then kind) is

  -- there are as many
  pub placed_count : (places : List ℕ) (xs : List A) → map (declared_at kind ds) places ≡ map Some xs → length places ≡ length xs
  placed_count [] [] e = refl
  placed_count [] (x ∷ xs) e = absurd (let q : ⊥ = cc in q)
  placed_count (q ∷ qs) [] e = absurd (let f : ⊥ = cc in f)
  placed_count (q ∷ qs) (x ∷ xs) e = ap suc (placed_count qs xs (let rest : map (declared_at kind ds) qs ≡ map Some xs = cc in rest))

  one_more : (places : List ℕ) (rest : List Declaration) (d : Declaration) (x : A) (place : ℕ) → slice_get ds place ≡ Some d → kind d ≡ Some x
      → map (declared_at kind ds) (places ++ place ∷ []) ++ map Some (filter_map kind rest) ≡ map (declared_at kind ds) places ++ map Some (filter_map kind (d ∷ rest))
  one_more [] rest d x place is of = rw (is, of) refl
  one_more (p ∷ ps) rest d x place is of = ap (λ ys. declared_at kind ds p ∷ ys) (one_more ps rest d x place is of)

  -- a declaration of the kind, whose place is listed
  pub listed : (places : List ℕ) (d : Declaration) (x : A) (place : ℕ) → slice_get ds place ≡ Some d → kind d ≡ Some x
      → map (declared_at kind ds) (places ++ place ∷ []) ++ map Some (filter_map kind (drop (place + 1) ds)) ≡ map (declared_at kind ds) places ++ map Some (filter_map kind (drop place ds))
  listed places d x place is of = rw (one_behind place, dropped ds place d is) (one_more places (drop (suc place) ds) d x place is of)

  -- one of another kind, which is passed
  pub passed : (places : List ℕ) (d : Declaration) (place : ℕ) → slice_get ds place ≡ Some d → kind d ≡ None
      → map (declared_at kind ds) places ++ map Some (filter_map kind (drop (place + 1) ds)) ≡ map (declared_at kind ds) places ++ map Some (filter_map kind (drop place ds))
  passed places d place is of = rw (one_behind place, dropped ds place d is, of) refl

-- what is no component
pub no_component : (k : DeclarationKind) → ((c : Component) → k ≡ kind.Component c → ⊥) → as_component (declaration_of k) ≡ None
no_component (kind.Context c) other = refl
no_component (kind.Function f) other = refl
no_component (kind.Component c) other = absurd (other c refl)

-- what is no function
pub no_function : (k : DeclarationKind) → ((f : Function) → k ≡ kind.Function f → ⊥) → as_function (declaration_of k) ≡ None
no_function (kind.Context c) other = refl
no_function (kind.Function f) other = absurd (other f refl)
no_function (kind.Component c) other = refl
