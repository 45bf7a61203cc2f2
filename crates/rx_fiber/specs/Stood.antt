-- Where a fiber of the current tree stands.
use Rattle.std.specs.Prelude.{◌≡◌, ℕ, ℤ, Bool, true, false, not, List, [], ◌∷◌, find, nat_eq, Option, Some, None, option_and_then}
use Rattle.rx_ctx.specs.Contexts.{is_among, same_given}
use Rattle.rx_elem.specs.Elements.{Element}
use Rattle.rx_elem.specs.Elements as elements
use Rattle.rx_lists.specs.Shapes.{Shape, first}
use Rattle.rx_links.specs.Readers.{value_of, list_from}
use Rattle.rx_fiber.specs.Fibers.{Fiber}
use Rattle.rx_fiber.specs.OldLists.{falls_in, hides_in, primary_list, fallback_list, fiber_at}

-- what a provider's element gives
abbrev pub given_in : Element → Option (ℕ × ℤ)
given_in elements.null = None
given_in (elements.text t) = None
given_in (elements.host n k attrs es) = None
given_in (elements.comp c k ps es) = None
given_in (elements.list marked es) = None
given_in (elements.boundary k f es) = None
given_in (elements.catcher k f es) = None
given_in (elements.provider c k x es) = Some (c, x)

-- one value more that is given, if there is one
abbrev pub one_more : Option (ℕ × ℤ) → List (ℕ × ℤ) → List (ℕ × ℤ)
one_more None ws = ws
one_more (Some w) ws = w ∷ ws

-- what providers give below an element, the nearest first, if these stand around it
abbrev pub given_more : Element → List (ℕ × ℤ) → List (ℕ × ℤ)
given_more e ws = one_more (given_in e) ws

-- the nearest of these that is given to a context
abbrev pub nearest_given : (context : ℕ) → List (ℕ × ℤ) → Option (ℕ × ℤ)
nearest_given c ws = find (λ w. nat_eq w.0 c) ws

-- what the element of a current fiber gives, if it is there
abbrev pub gave : Shape Fiber → Option ℕ → Option (ℕ × ℤ)
gave current o = option_and_then (λ v. given_in v.element) (option_and_then (value_of current) o)

-- an element gives a context another value than a current fiber does, or that one gives it none
abbrev pub gives_another : Shape Fiber → Option ℕ → Element → Bool
gives_another current o e = not (same_given (given_in e) (gave current o))

-- The fiber is one of the current tree that is shown, and the providers on the way to it from the root give these values, the nearest first.
pub data StoodAt (current : Shape Fiber) : List (ℕ × ℤ) → Option ℕ → Type 0 where
  at_root : {i : ℕ} → first current ≡ Some i → StoodAt current [] (Some i)
  -- it is a child of a node that hides nothing
  below : {ws : List (ℕ × ℤ)} {q i : ℕ} {v : Fiber} (place : ℕ) → StoodAt current ws (Some q) → value_of current q ≡ Some v → hides_in v.stage ≡ false
      → fiber_at (primary_list (list_from current (Some q))) place ≡ Some i → StoodAt current (given_more v.element ws) (Some i)
  -- it is in the fallback of a boundary that shows it
  in_fallback : {ws : List (ℕ × ℤ)} {q i : ℕ} {v : Fiber} (place : ℕ) → StoodAt current ws (Some q) → value_of current q ≡ Some v → falls_in v.stage ≡ true
      → fiber_at (fallback_list (list_from current (Some q))) place ≡ Some i → StoodAt current ws (Some i)

-- A current fiber is shown, and the providers on the way to it give each context what these give, but for some contexts.
pub record StandsBut (current : Shape Fiber) (moved : List ℕ) (ws : List (ℕ × ℤ)) (o : Option ℕ) : Type 0 where
  pub given : List (ℕ × ℤ)
  pub stood : StoodAt current given o
  pub same : (c : ℕ) → is_among c moved ≡ false → nearest_given c given ≡ nearest_given c ws

-- it is shown, and they give each context the same
abbrev pub StandsSame : Shape Fiber → List (ℕ × ℤ) → Option ℕ → Type 0
StandsSame current ws o = StandsBut current [] ws o
