-- Which instances stand on a way, and what is told of those that do not.
use Rattle.std.specs.Prelude.{◌≡◌, ℕ, Bool, false, ◌||◌, Option, Some, None}
use Rattle.rx_susp.specs.Boundary.{hides}
use Rattle.rx_elem.specs.Trees.{Forest, Mark, Node, child, node, none, of_boundary, of_catcher, of_host, of_instance, plain, vacant}
use Rattle.rx_meaning.specs.Settled.{number_of}
use Rattle.commit_laws.specs.Each.{ForEach}
use Rattle.rx_ways.specs.WaySets.{is_put}
use Rattle.rx_ways.specs.declared.way_set.WaySet.{WaySet}

-- the numbers of the instances that stand on a way, or all instances
pub record Ways : Type 0 where
  pub numbers : WaySet
  pub all : Bool

-- an instance stands on a way
abbrev pub is_way : Ways → ℕ → Bool
is_way ways n = ways.all || is_put ways.numbers n

-- a node is quiet, by its mark: an instance has a number, which is not among these, and a boundary is shown
abbrev pub IsQuiet : (stirred : ℕ → Bool) → Mark → Type 0
IsQuiet stirred (of_instance i) = (n : ℕ) × (i.number ≡ Some n) × (stirred n ≡ false)
IsQuiet stirred (of_host h) = Unit {0}
IsQuiet stirred (of_boundary b) = hides b ≡ false
IsQuiet stirred (of_catcher c) = Unit {0}
IsQuiet stirred plain = Unit {0}

-- if the instance of a node stands on no way, this holds of each node of its tree
abbrev pub CoversHere : (way : ℕ → Bool) → (Mark → Type 0) → Mark → Node → Type 0
CoversHere way P m x = (n : ℕ) → number_of m ≡ Some n → way n ≡ false → ForEach P x

-- the ways cover a tree: below each instance that stands on none, and of itself, this holds
abbrev mutual
  pub Covers : (way : ℕ → Bool) → (Mark → Type 0) → Node → Type 0
  Covers way P (node e m ns fs) = CoversHere way P m (node e m ns fs) × CoversIn way P ns × CoversIn way P fs

  -- the same for the trees of a list
  pub CoversIn : (way : ℕ → Bool) → (Mark → Type 0) → Forest → Type 0
  CoversIn way P none = Unit {0}
  CoversIn way P (vacant ns) = CoversIn way P ns
  CoversIn way P (child n ns) = Covers way P n × CoversIn way P ns

-- the same for a tree that may be missing
abbrev pub CoversIf : (way : ℕ → Bool) → (Mark → Type 0) → Option Node → Type 0
CoversIf way P None = Unit {0}
CoversIf way P (Some n) = Covers way P n
