-- What the current fibers of a node tell of its old lists.
use Rattle.std.specs.Prelude.{ℕ, zero, suc, ◌+◌, ◌-◌, Bool, true, false, not, ◌&&◌, List, [], ◌∷◌, ◌++◌, Option, Some, None, if◌then◌else◌, slice_get, option_and_then, map}
use Rattle.std.specs.Option.{option_flatten}
use Rattle.rx_elem.specs.Elements.{Element}
use Rattle.rx_elem.specs.Elements as elements
use Rattle.rx_elem.specs.Identity.{old_places}
use Rattle.rx_elem.specs.Trees.{is_hidden, shows_fallback}
use Rattle.rx_lists.specs.Shapes.{Shape, none, fiber}
use Rattle.rx_fiber.specs.Fibers.{Stage, Fiber, waiting, begun, trying, guarding, fallback}

-- the stage is that of a fallback beside the boundary right before it
abbrev pub is_fallback : Stage → Bool
is_fallback (waiting c) = false
is_fallback (begun m) = false
is_fallback (trying c) = false
is_fallback guarding = false
is_fallback (fallback a) = true

-- the stage is that of a boundary that is hidden
abbrev pub hides_in : Stage → Bool
hides_in (waiting c) = false
hides_in (begun m) = is_hidden m
hides_in (trying c) = false
hides_in guarding = false
hides_in (fallback a) = false

-- the stage is that of a boundary that shows its fallback: it is hidden, or has caught a value
abbrev pub falls_in : Stage → Bool
falls_in (waiting c) = false
falls_in (begun m) = shows_fallback m
falls_in (trying c) = false
falls_in guarding = false
falls_in (fallback a) = false

-- a list begins with the fiber of a fallback
abbrev pub begins_fallback : Shape Fiber → Bool
begins_fallback none = false
begins_fallback (fiber id v ks rs) = is_fallback v.stage

-- the children of the first fiber of a list
abbrev pub first_kids : Shape Fiber → Shape Fiber
first_kids none = none
first_kids (fiber id v ks rs) = ks

-- the children of the node with whose fibers a list begins; of a boundary, its primary: none if it shows its fallback and keeps none
abbrev pub primary_list : Shape Fiber → Shape Fiber
primary_list none = none
primary_list (fiber id v ks rs) = if falls_in v.stage && not (begins_fallback rs) then none else ks

-- its fallback: that of a boundary that shows it, among its own children or among those of the fiber behind it
abbrev pub fallback_list : Shape Fiber → Shape Fiber
fallback_list none = none
fallback_list (fiber id v ks rs) = if falls_in v.stage then (if begins_fallback rs then first_kids rs else ks) else none

module _ {A : Type 0} where
  -- a value so many times
  abbrev pub filled : ℕ → A → List A
  filled zero x = []
  filled (suc n) x = x ∷ filled n x

  -- what one fiber tells behind so many places: the gap at those before its own, and then its own; nothing if it is that of a fallback
  abbrev pub told : A → A → (place : ℕ) → Fiber → List A
  told gap x n v = if is_fallback v.stage then [] else filled (v.place - n) gap ++ x ∷ []

  -- what the fibers of a list tell, each at its place, from a place on; what stands at a place without one is given
  abbrev pub spread : A → (ℕ → Fiber → A) → (place : ℕ) → Shape Fiber → List A
  spread gap tells n none = []
  spread gap tells n (fiber id v ks rs) =
      if is_fallback v.stage then spread gap tells n rs else filled (v.place - n) gap ++ tells id v ∷ spread gap tells (suc (n + (v.place - n))) rs

-- the elements of a list of fibers, place by place: null where there is no fiber
abbrev pub old_elements : Shape Fiber → List Element
old_elements s = spread elements.null (λ id v. v.element) 0 s

-- the fibers of a list, place by place
abbrev pub old_fibers : Shape Fiber → List (Option ℕ)
old_fibers s = spread None (λ id v. Some id) 0 s

-- the fiber at a place of a list
abbrev pub fiber_at : Shape Fiber → ℕ → Option ℕ
fiber_at s place = option_flatten (slice_get (old_fibers s) place)

-- for each new child the old fiber that it is, if it is one
abbrev pub matched : Shape Fiber → List Element → List (Option ℕ)
matched s new = map (option_and_then (fiber_at s)) (old_places (old_elements s) new)
