-- What a walk lists of the hosts with some parents, if it passes fibers by.
use Rattle.std.specs.Prelude.{◌≡◌, ℕ, Bool, true, false, ◌||◌, List, [], ◌∷◌, ◌++◌, filter_map}
use Rattle.rx_elem.specs.Spots.{Around, Spot, spot_mark, spots_in}
use Rattle.rx_elem.specs.Trees.{forest, host_number}
use Rattle.rx_forest.specs.Forests.{is_among}
use Rattle.rx_forest.specs.Hosts.{Host, host_at}
use Rattle.host_laws.specs.Siblings.{with_parents}
use Rattle.rx_lists.specs.Shapes.{Shape}
use Rattle.rx_fiber.specs.Fibers.{Fiber}
use Rattle.rx_read.specs.Places.{first_node, places_in}

-- the nodes that a list of fibers stands for and all below, by what surrounds the list
abbrev pub spots_of : Around → Shape Fiber → List Spot
spots_of a s = spots_in a (forest (places_in 0 s))

-- the node that its first fiber stands for and all below, if that stands for one
abbrev pub first_spots : Around → Shape Fiber → List Spot
first_spots a s = spots_in a (forest (first_node s ∷ []))

-- the numbers of the hosts among some nodes
abbrev pub numbers_at : List Spot → List ℕ
numbers_at ss = filter_map (λ s. host_number (spot_mark s)) ss

-- no number stands there twice
abbrev pub AreOnce : List ℕ → Type 0
AreOnce [] = Unit {0}
AreOnce (n ∷ ns) = (is_among ns n ≡ false) × AreOnce ns

-- each wanted number among these was met by a walk, and not before
abbrev pub AreMet : (wanted before after : ℕ → Bool) → List ℕ → Type 0
AreMet wanted before after ns = (n : ℕ) → wanted n ≡ true → is_among ns n ≡ true → (before n ≡ false) × (after n ≡ true)

-- What a walk over some nodes did, which may have passed some of them by: what it met is a host there; and if it met each wanted host there, it has listed those with wanted parents.
pub record HasWalked (wanted before after : ℕ → Bool) (listed all : List Host) (ss : List Spot) : Type 0 where
  pub met : (n : ℕ) → after n ≡ true → (before n || is_among (numbers_at ss) n) ≡ true
  pub told : AreOnce (numbers_at ss) → AreMet wanted before after (numbers_at ss) → all ≡ listed ++ with_parents wanted (filter_map host_at ss)
