-- Trees in which each node stands for something.
use Rattle.std.specs.Prelude.{◌≡◌, true, Option, Some, None}
use Rattle.rx_elem.specs.Elements.{is_present}
use Rattle.rx_elem.specs.Trees.{Node, node, Forest, none, vacant, child}

-- no node of a tree is one of null
abbrev mutual
  pub HasNoNull : Node → Type 0
  HasNoNull (node e m ns fs) = (is_present e ≡ true) × AllHaveNoNull ns × AllHaveNoNull fs

  -- the same for the trees of a list
  pub AllHaveNoNull : Forest → Type 0
  AllHaveNoNull none = Unit {0}
  AllHaveNoNull (vacant ns) = AllHaveNoNull ns
  AllHaveNoNull (child n ns) = HasNoNull n × AllHaveNoNull ns

-- the same for a tree that may be missing
abbrev pub IfHasNoNull : Option Node → Type 0
IfHasNoNull None = Unit {0}
IfHasNoNull (Some n) = HasNoNull n
