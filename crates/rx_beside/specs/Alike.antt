-- Fibers that took their children over are like those that they were made for.
use Rattle.std.specs.Prelude.{◌≡◌, ℕ, true, false, Option, Some, option_and_then}
use Rattle.rx_elem.specs.Trees.{Mark}
use Rattle.rx_lists.specs.Shapes.{Shape, none, fiber}
use Rattle.rx_links.specs.Drafts.{Draft, taken, made}
use Rattle.rx_links.specs.Readers.{value_of}
use Rattle.rx_node.specs.Fixed.{is_fixed_mark}
use Rattle.rx_fiber.specs.Fibers.{Fiber}
use Rattle.rx_fiber.specs.OldLists.{hides_in}
use Rattle.rx_read.specs.Places.{mark_in}

-- a fiber has the element of another, and its mark, if a commit leaves that as it is
pub record IsLike (w v : Fiber) : Type 0 where
  pub element : v.element ≡ w.element
  pub mark : (m : Mark) → mark_in w.stage ≡ Some m → is_fixed_mark m ≡ true → mark_in v.stage ≡ Some m

-- if a made fiber took children over, and is no boundary that hides them, it is like the current one that it was made for
abbrev pub TakesAlike : Shape Fiber → Fiber → (old : Option ℕ) → (kids : Draft Fiber) → Type 0
TakesAlike c v o (taken none) = Unit {0}
TakesAlike c v o (taken (fiber id w ks rs)) = hides_in v.stage ≡ false → (x : Fiber) × (option_and_then (value_of c) o ≡ Some x) × IsLike x v
TakesAlike c v o (made id w p ks rs) = Unit {0}

-- the same of each made fiber
abbrev pub AllTakeAlike : Shape Fiber → Draft Fiber → Type 0
AllTakeAlike c (taken s) = Unit {0}
AllTakeAlike c (made id v o ks rs) = TakesAlike c v o ks × (AllTakeAlike c ks × AllTakeAlike c rs)
