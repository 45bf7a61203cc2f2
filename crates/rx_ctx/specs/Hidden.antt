-- What a stack of contexts keeps: the values at the place, which contexts have another value there than at the old one, and for each provider what it hides of these.
use Rattle.std.specs.Prelude.{◌≡◌, ℕ, suc, ◌<◌, Bool, false, List, [], ◌∷◌, ℤ, pos, length, slice_index_or, slice_set, if◌then◌else◌}
use Rattle.rx_ctx.specs.declared.stack.HiddenValue.{HiddenValue}
use Rattle.rx_ctx.specs.Contexts.{Stack}

-- what the providers gave, the nearest first
abbrev pub given_in : (values : List ℤ) → List HiddenValue → List (ℕ × ℤ)
given_in values [] = []
given_in values (h ∷ hs) = (h.context, slice_index_or values h.context (pos 0)) ∷ given_in (slice_set values h.context h.value) hs

-- the values with no provider
abbrev pub defaults_in : (values : List ℤ) → List HiddenValue → List ℤ
defaults_in values [] = values
defaults_in values (h ∷ hs) = defaults_in (slice_set values h.context h.value) hs

-- which providers gave another value than their old nodes, the nearest first, by whether each context has another value here
abbrev pub moves_in : (others : List Bool) → List HiddenValue → List (ℕ × Bool)
moves_in others [] = []
moves_in others (h ∷ hs) = (h.context, slice_index_or others h.context false) ∷ moves_in (slice_set others h.context h.other) hs

-- with no provider no context has another value
abbrev pub NoneOther : (others : List Bool) → List HiddenValue → Type 0
NoneOther others [] = (c : ℕ) → slice_index_or others c false ≡ false
NoneOther others (h ∷ hs) = NoneOther (slice_set others h.context h.other) hs

-- how many of these hold
abbrev pub count_true : List Bool → ℕ
count_true [] = 0
count_true (b ∷ bs) = if b then suc (count_true bs) else count_true bs

-- the contexts of what is hidden are among the values
abbrev pub AreContexts : ℕ → List HiddenValue → Type 0
AreContexts count [] = Unit {0}
AreContexts count (h ∷ hs) = (h.context < count) × AreContexts count hs

-- the stack that stands there, with the nearest provider first
abbrev pub stack_of : (values : List ℤ) → (others : List Bool) → List HiddenValue → Stack
stack_of values others hs = record { defaults = defaults_in values hs; given = given_in values hs; moves = moves_in others hs }

-- of each context it is known whether it has another value, and how many have
pub record IsKept (values : List ℤ) (others : List Bool) (count : ℕ) (hs : List HiddenValue) : Type 0 where
  pub contexts : AreContexts (length values) hs
  pub each : length others ≡ length values
  pub none : NoneOther others hs
  pub counted : count ≡ count_true others
