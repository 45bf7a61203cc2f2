-- Whether a boundary is hidden.
use Rattle.std.specs.Prelude.{Bool, false, ◌||◌}
use Rattle.rx_elem.specs.Trees.{Node, node, Forest, none, vacant, child, is_hidden}

-- a boundary at a node or below is hidden, of what is kept and of fallbacks too
abbrev mutual
  pub hides_within : Node → Bool
  hides_within (node e m ns fs) = is_hidden m || (hides_in ns || hides_in fs)

  -- the same for the trees of a list
  pub hides_in : Forest → Bool
  hides_in none = false
  hides_in (vacant ns) = hides_in ns
  hides_in (child n ns) = hides_within n || hides_in ns
