-- Instances of a committed tree, as an old node has them.
use Rattle.std.specs.Prelude.{◌≡◌, ℕ, ℤ, List, Option, Some, slice_get}
use Rattle.rx_elem.specs.Trees.{Instance, Forest, Node, child, instance_in, node, none, vacant}
use Rattle.rx_elem.specs.Spots.{Mounted, mounted}

-- the tree has an instance of this number, with these initial values
pub record IsMountedIn (tree : Option Node) (number : ℕ) (initials : List ℤ) : Type 0 where
  pub place : ℕ
  pub instance : Mounted
  pub there : slice_get (mounted tree) place ≡ Some instance
  pub is_numbered : instance.number ≡ number
  pub is_initially : instance.initials ≡ initials

-- the tree has the instance, if there is one and it has a number
abbrev pub IfMounted : Option Node → Option Instance → Type 0
IfMounted tree instance = (i : Instance) (n : ℕ) → instance ≡ Some i → i.number ≡ Some n → IsMountedIn tree n i.initials

-- the tree has each instance of a node and below it
abbrev mutual
  pub HasInstances : Option Node → Node → Type 0
  HasInstances tree (node e m ns fs) = IfMounted tree (instance_in m) × HasInstancesIn tree ns × HasInstancesIn tree fs

  -- the same for the nodes of a list
  pub HasInstancesIn : Option Node → Forest → Type 0
  HasInstancesIn tree none = Unit {0}
  HasInstancesIn tree (vacant ns) = HasInstancesIn tree ns
  HasInstancesIn tree (child n ns) = HasInstances tree n × HasInstancesIn tree ns
