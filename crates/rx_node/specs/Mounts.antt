-- Where there are instances.
use Rattle.std.specs.Prelude.{Bool, false, ◌||◌, is_some}
use Rattle.rx_elem.specs.Trees.{Mark, Node, node, Forest, none, vacant, child, instance_in}

-- a node is one of a component
abbrev pub is_instance : Mark → Bool
is_instance m = is_some (instance_in m)

-- an instance is at a node or below, of what is kept and of fallbacks too
abbrev mutual
  pub mounts_within : Node → Bool
  mounts_within (node e m ns fs) = is_instance m || (mounts_in ns || mounts_in fs)

  -- the same for the trees of a list
  pub mounts_in : Forest → Bool
  mounts_in none = false
  mounts_in (vacant ns) = mounts_in ns
  mounts_in (child n ns) = mounts_within n || mounts_in ns
