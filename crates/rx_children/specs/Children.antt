-- The fibers that are made for a list of children.
use Rattle.std.specs.Prelude.{◌≡◌, ℕ, suc, true, false, List, [], ◌∷◌, Option, Some, None, option_and_then, slice_get, drop}
use Rattle.std.specs.Option.{option_map_or}
use Rattle.rx_elem.specs.Elements.{Element}
use Rattle.rx_elem.specs.Elements as elements
use Rattle.rx_lists.specs.Shapes.{Shape, IsTop}
use Rattle.rx_lists.specs.Shapes as shapes
use Rattle.rx_links.specs.Drafts.{Draft, taken, made, Trees, grown, kids_under}
use Rattle.rx_links.specs.Places.{Around, placed}
use Rattle.rx_links.specs.Readers.{list_from, value_of}
use Rattle.rx_meaning.specs.Cursor.{is_null}
use Rattle.rx_fiber.specs.Fibers.{Fiber, waiting}
use Rattle.rx_fiber.specs.OldLists.{old_fibers}
use Rattle.rx_fiber.specs.declared.stage.Origin.{Origin}
use Rattle.rx_fiber.specs.Surround.{IsElementOf}

-- a fiber is made for a place that the render has not come to, for this current fiber, if for one, and so much is known of it; a clone has the element of the current fiber
pub record IsMade (current : Shape Fiber) (origin : Origin) (o : Option ℕ) (v : Fiber) (place : ℕ) (e : Element) : Type 0 where
  pub at : v.place ≡ place
  pub element : v.element ≡ e
  pub stage : v.stage ≡ waiting origin
  pub same : origin.cloned ≡ true → IsElementOf current o e

-- From a place on, each element that isn't null has a fiber, made for its old one if it has one; null has none. So much is known of each.
pub data AreMade (current : Shape Fiber) (origin : Origin) : (place : ℕ) → List Element → List (Option ℕ) → Draft Fiber → Type 0 where
  no_more : {n : ℕ} → AreMade current origin n [] [] (taken shapes.none)
  gap : {n : ℕ} {e : Element} {o : Option ℕ} {es : List Element} {os : List (Option ℕ)} {d : Draft Fiber}
      → is_null e ≡ true → AreMade current origin (suc n) es os d → AreMade current origin n (e ∷ es) (o ∷ os) d
  next : {n id : ℕ} {v : Fiber} {e : Element} {o : Option ℕ} {es : List Element} {os : List (Option ℕ)} {d : Draft Fiber}
      → is_null e ≡ false → IsMade current origin o v n e → AreMade current origin (suc n) es os d → AreMade current origin n (e ∷ es) (o ∷ os) (made id v o (taken shapes.none) d)

-- the element of a current fiber, and null where there is none
abbrev pub element_or_null : Shape Fiber → Option ℕ → Element
element_or_null current o = option_map_or (λ v. v.element) (option_and_then (value_of current) o) elements.null

-- a current list has no place but the first: there its first fiber stands, if it has one
abbrev pub IsAlone : Shape Fiber → (first : Option ℕ) → Type 0
IsAlone current first = old_fibers (list_from current first) ≡ option_map_or (λ id. Some id ∷ []) first []

-- no two of a list are the same
abbrev pub AreApart : List (Option ℕ) → Type 0
AreApart os = (i k j : ℕ) → slice_get os i ≡ Some (Some j) → slice_get os k ≡ Some (Some j) → i ≡ k

-- a made fiber has no children yet, and these are among those of the fiber that it was made for, each once
pub record HasRoomFor (t : Trees Fiber) (p : ℕ) (olds : List (Option ℕ)) : Type 0 where
  pub around : Around Fiber
  pub value : Fiber
  pub old : Option ℕ
  pub rest : Draft Fiber
  pub here : t.draft ≡ placed around (made p value old (taken shapes.none) rest)
  pub tops : (i j : ℕ) → slice_get olds i ≡ Some (Some j) → IsTop (kids_under t.current old) j
  pub apart : AreApart olds

-- one element more has its fiber, in front of those that were made, or it is null and has none
pub data HasAdded (origin : Origin) (before after : Trees Fiber) (p place : ℕ) (e : Element) (o : Option ℕ) : Type 0 where
  none : is_null e ≡ true → after ≡ before → HasAdded origin before after p place e o
  one : (id : ℕ) (v : Fiber) → is_null e ≡ false → IsMade before.current origin o v place e → after ≡ record before { draft = grown p id v o before.draft } → HasAdded origin before after p place e o

-- a made fiber that had no children has those of these elements, from a place on, and nothing else is changed
pub record HasMadeFrom (origin : Origin) (place : ℕ) (before after : Trees Fiber) (p : ℕ) (es : List Element) (os : List (Option ℕ)) : Type 0 where
  pub kids : Draft Fiber
  pub are : AreMade before.current origin place (drop place es) (drop place os) kids
  pub stands : (k : Around Fiber) (v : Fiber) (o : Option ℕ) (rs : Draft Fiber)
      → before.draft ≡ placed k (made p v o (taken shapes.none) rs) → after.draft ≡ placed k (made p v o kids rs)
  pub current : after.current ≡ before.current

-- each fiber that is made for a list waits, with no children, and so much is known of each
abbrev pub AllWait : Origin → Draft Fiber → Type 0
AllWait origin (taken s) = s ≡ shapes.none
AllWait origin (made id v o ks rs) = (v.stage ≡ waiting origin) × (ks ≡ taken shapes.none) × AllWait origin rs

-- none is made for a current fiber
abbrev pub AllNew : Draft Fiber → Type 0
AllNew (taken s) = Unit {0}
AllNew (made id v o ks rs) = (o ≡ None) × AllNew rs
