-- The nodes of a tree, counted from one down.
use Rattle.std.specs.Prelude.{ℕ, ◌+◌, Bool, not, ◌||◌, if◌then◌else◌}
use Rattle.rx_elem.specs.Trees.{Mark, Node, node, Forest, none, vacant, child, is_hidden}

-- a node of this mark is counted: each one, or only a boundary that is hidden
abbrev pub is_counted : (only_hidden : Bool) → Mark → Bool
is_counted only_hidden m = is_hidden m || not only_hidden

-- what a node of this mark counts
abbrev pub own_count : (only_hidden : Bool) → Mark → ℕ
own_count only_hidden m = if is_counted only_hidden m then 1 else 0

-- how many nodes are counted from one on
abbrev mutual
  pub counted_from : (only_hidden : Bool) → Node → ℕ
  counted_from only_hidden (node e m ns fs) = own_count only_hidden m + counted_in only_hidden ns + counted_in only_hidden fs

  -- how many are counted of a list and below
  pub counted_in : (only_hidden : Bool) → Forest → ℕ
  counted_in only_hidden none = 0
  counted_in only_hidden (vacant ns) = counted_in only_hidden ns
  counted_in only_hidden (child n ns) = counted_from only_hidden n + counted_in only_hidden ns
