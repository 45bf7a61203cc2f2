-- Lists of fibers as plain data.
use Rattle.std.specs.Prelude.{◌≡◌, ℕ, suc, ◌+◌, Bool, false, eqb, ◌||◌, ◌⊎◌, List, [], ◌∷◌, ◌++◌, Option, Some, None}

-- a list of fibers: the first with its value, its children, and its later siblings
pub data Shape (F : Type 0) : Type 0 where
  none : Shape F
  fiber : (id : ℕ) → (value : F) → (kids rest : Shape F) → Shape F

-- the id is one of these
abbrev pub is_among : List ℕ → ℕ → Bool
is_among [] i = false
is_among (x ∷ xs) i = eqb x i || is_among xs i

module _ {F : Type 0} where
  -- the link that leads to a list
  abbrev pub first : Shape F → Option ℕ
  first none = None
  first (fiber id v ks rs) = Some id

  -- the fiber is in the list, or below
  abbrev pub Holds : Shape F → ℕ → Type 0
  Holds none i = ⊥
  Holds (fiber id v ks rs) i = (i ≡ id) ⊎ (Holds ks i ⊎ Holds rs i)

  -- the same as a test
  abbrev pub holds : Shape F → ℕ → Bool
  holds none i = false
  holds (fiber id v ks rs) i = eqb i id || (holds ks i || holds rs i)

  -- each fiber stands there once
  abbrev pub IsTree : Shape F → Type 0
  IsTree none = Unit {0}
  IsTree (fiber id v ks rs) =
      (Holds ks id → ⊥) × (Holds rs id → ⊥) × ((i : ℕ) → Holds ks i → Holds rs i → ⊥) × IsTree ks × IsTree rs

  -- how many fibers are in the list and below
  abbrev pub size : Shape F → ℕ
  size none = 0
  size (fiber id v ks rs) = suc (size ks + size rs)

  -- the fibers in tree order: each before its children, and these before its later siblings
  abbrev pub ids : Shape F → List ℕ
  ids none = []
  ids (fiber id v ks rs) = id ∷ (ids ks ++ ids rs)

  -- the list itself, and not what is below, has this fiber
  abbrev pub IsTop : Shape F → ℕ → Type 0
  IsTop none j = ⊥
  IsTop (fiber id v ks rs) j = (id ≡ j) ⊎ IsTop rs j
