-- Links of links.
use Rattle.std.specs.Prelude.{ℕ, Bool, true, false, eqb, Option, Some, None}
use Rattle.rx_arena.specs.Nodes.{at}
use Rattle.rx_arena.specs.declared.arena.Node.{Node}
use Rattle.rx_lists.specs.Reads.{Nodes, alternate_at}

-- both links lead to one node, or nowhere
abbrev pub same_link : Option ℕ → Option ℕ → Bool
same_link None None = true
same_link None (Some j) = false
same_link (Some i) None = false
same_link (Some i) (Some j) = eqb i j

module _ {F : Type 0} where
  -- the child link of what an id has, if it has a node
  abbrev pub child_in : Option (Node F) → Option ℕ
  child_in None = None
  child_in (Some n) = n.child

  -- the child link of an id
  abbrev pub child_at : Nodes F → ℕ → Option ℕ
  child_at a id = child_in (at a id)

  -- the child link of what a link leads to
  abbrev pub child_under : Nodes F → Option ℕ → Option ℕ
  child_under a None = None
  child_under a (Some id) = child_at a id

  -- the node's children are also those of its alternate
  abbrev pub is_shared : Nodes F → ℕ → Bool
  is_shared a id = same_link (child_at a id) (child_under a (alternate_at a id))
