-- What is known of the children that a place is begun over.
use Rattle.std.specs.Prelude.{◌≡◌, ℕ, Bool, true, Option, None, cond}
use Rattle.rx_lists.specs.Shapes as shapes
use Rattle.rx_links.specs.Drafts.{Draft, taken, made, Trees, old_of}
use Rattle.rx_links.specs.Places.{Around, placed}
use Rattle.rx_fiber.specs.Fibers.{Fiber, as_cloned, as_matched, origin_of}
use Rattle.rx_fiber.specs.declared.stage.Origin.{Origin}
use Rattle.rx_fiber.specs.Unwound.{is_trying}
use Rattle.rx_children.specs.Children.{AllWait, AllNew}

-- what is known of the children of a component's place: they may be others if a body was evaluated, and are of this generation, or else they are clones
abbrev pub kids_as : (evaluated visible : Bool) (generation : ℕ) → Origin
kids_as evaluated visible generation = cond evaluated (as_matched visible generation) (as_cloned visible)

-- A made fiber that had no children has some, which all wait, and of which so much is known; if it is made for no current fiber, so is each of these.
pub record HasKids (origin : Origin) (before after : Trees Fiber) (p : ℕ) : Type 0 where
  pub kids : Draft Fiber
  pub value : Fiber → Fiber
  -- it has its element still
  pub element : (v : Fiber) → (value v).element ≡ v.element
  pub stands : (k : Around Fiber) (v : Fiber) (o : Option ℕ) (rs : Draft Fiber) → before.draft ≡ placed k (made p v o (taken shapes.none) rs) → after.draft ≡ placed k (made p (value v) o kids rs)
  pub all : AllWait origin kids
  pub new : old_of before.draft p ≡ None → AllNew kids
  -- if the fiber comes to try its children, it keeps what is known of its place
  pub keeps : (k : Around Fiber) (v : Fiber) (o : Option ℕ) (rs : Draft Fiber) → before.draft ≡ placed k (made p v o (taken shapes.none) rs) → is_trying (value v).stage ≡ true → origin_of (value v).stage ≡ origin_of v.stage
