-- Children that are made wait for the render, below providers that give some values, of which some have moved.
use Rattle.std.specs.Prelude.{◌≡◌, ℕ, zero, suc, ℤ, true, false, List, [], ◌∷◌, Option, Some, None, slice_get}
use Rattle.std.proofs.Common.{refl, ap}
use Rattle.rx_elem.specs.Elements.{Element}
use Rattle.rx_lists.specs.Shapes.{Shape}
use Rattle.rx_lists.specs.Shapes as shapes
use Rattle.rx_links.specs.Drafts.{Draft, taken, made}
use Rattle.rx_meaning.specs.Cursor.{is_null}
use Rattle.rx_fiber.specs.Fibers.{Fiber}
use Rattle.rx_fiber.specs.Stood.{StandsBut}
use Rattle.rx_fiber.specs.Surround.{IsWaiting, StandsIf}
use Rattle.rx_fiber.specs.declared.stage.Origin.{Origin}
use Rattle.rx_children.specs.Children.{IsMade, AreMade}
use Rattle.rx_children.specs.Children as children

-- from a place on, each element that isn't null has a fiber that waits
pub data AreWaiting (current : Shape Fiber) (ms : List ℕ) (ws : List (ℕ × ℤ)) : (place : ℕ) → List Element → List (Option ℕ) → Draft Fiber → Type 0 where
  no_more : {n : ℕ} → AreWaiting current ms ws n [] [] (taken shapes.none)
  gap : {n : ℕ} {e : Element} {o : Option ℕ} {es : List Element} {os : List (Option ℕ)} {d : Draft Fiber}
      → is_null e ≡ true → AreWaiting current ms ws (suc n) es os d → AreWaiting current ms ws n (e ∷ es) (o ∷ os) d
  next : {n id : ℕ} {v : Fiber} {e : Element} {o : Option ℕ} {es : List Element} {os : List (Option ℕ)} {d : Draft Fiber}
      → is_null e ≡ false → IsWaiting current ms ws o v n e → AreWaiting current ms ws (suc n) es os d → AreWaiting current ms ws n (e ∷ es) (o ∷ os) (made id v o (taken shapes.none) d)

module _ (c : Shape Fiber) (ms : List ℕ) (ws : List (ℕ × ℤ)) where
  one_waits : (origin : Origin) (o : Option ℕ) (v : Fiber) (n : ℕ) (e : Element) → (origin.cloned ≡ true → origin.generation ≡ 0) → (origin.visible ≡ true → StandsIf c ms ws o) → IsMade c origin o v n e → IsWaiting c ms ws o v n e
  one_waits origin o v n e first stands is = record { at = is.at; element = is.element; origin = origin; stage = is.stage; same = is.same; stands = stands; first = first }

  stands_if : (o : Option ℕ) → ((j : ℕ) → o ≡ Some j → StandsBut c ms ws (Some j)) → StandsIf c ms ws o
  stands_if None h = tt
  stands_if (Some j) h = h j refl

  -- Those that are visible, if they are, stand where these values are given, but for contexts that have moved.
  pub all_wait : (origin : Origin) (n : ℕ) (es : List Element) (os : List (Option ℕ)) (d : Draft Fiber) → (origin.cloned ≡ true → origin.generation ≡ 0) → (origin.visible ≡ true → (i j : ℕ) → slice_get os i ≡ Some (Some j) → StandsBut c ms ws (Some j))
      → AreMade c origin n es os d → AreWaiting c ms ws n es os d
  all_wait origin n [] [] _ first shown children.no_more = no_more
  all_wait origin n [] (o ∷ os) d first shown are = elim are [ ]
  all_wait origin n (e ∷ es) [] d first shown are = elim are [ ]
  all_wait origin n (e ∷ es) (o ∷ os) d first shown (children.gap null more) = gap null (all_wait origin (suc n) es os d first (λ so i j f. shown so (suc i) j f) more)
  all_wait origin n (e ∷ es) (o ∷ os) (made id v _ _ d) first shown (children.next there is more) =
      next there (one_waits origin o v n e first (λ so. stands_if o (λ j f. shown so zero j (ap Some f))) is) (all_wait origin (suc n) es os d first (λ so i j f. shown so (suc i) j f) more)
