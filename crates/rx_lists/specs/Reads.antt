-- Which list of fibers the nodes of an arena have from a link.
use Rattle.std.specs.Prelude.{◌≡◌, ℕ, zero, suc, ◌≤◌, ◌^◌, Option, Some, None, option_map}
use Rattle.slab.specs.Slab.{Slab}
use Rattle.rx_arena.specs.Nodes.{at, alternate_in}
use Rattle.rx_arena.specs.declared.arena.Node.{Node}
use Rattle.rx_lists.specs.Shapes.{Shape, none, fiber, first, size}

-- what reading down a list needs of a node
pub data Core (F : Type 0) : Type 0 where
  core : (value : F) → (child sibling : Option ℕ) → Core F

-- what an arena is seen as
abbrev pub Nodes : Type 0 → Type 0
Nodes F = Slab (Node F)

-- as many nodes as an arena has at most
unfoldable pub limit : ℕ
limit = 2 ^ 64

module _ {F : Type 0} where
  -- that part of a node
  abbrev pub core_of : Node F → Core F
  core_of n = core n.value n.child n.sibling

  -- that part of the node of an id
  abbrev pub core_at : Nodes F → ℕ → Option (Core F)
  core_at a id = option_map core_of (at a id)

  -- the return link of what an id has, if it has a node
  abbrev pub up_in : Option (Node F) → Option ℕ
  up_in None = None
  up_in (Some n) = n.up

  -- the return link of an id
  abbrev pub up_at : Nodes F → ℕ → Option ℕ
  up_at a id = up_in (at a id)

  -- the alternate link of an id
  abbrev pub alternate_at : Nodes F → ℕ → Option ℕ
  alternate_at a id = alternate_in (at a id)

  -- the nodes' values, child links and sibling links are those of the list
  abbrev pub Reads : Nodes F → Shape F → Type 0
  Reads a none = Unit {0}
  Reads a (fiber id v ks rs) = (core_at a id ≡ Some (core v (first ks) (first rs))) × Reads a ks × Reads a rs

  -- the return links of a list lead to the parent
  abbrev pub Returns : Nodes F → Option ℕ → Shape F → Type 0
  Returns a p none = Unit {0}
  Returns a p (fiber id v ks rs) = (up_at a id ≡ p) × Returns a (Some id) ks × Returns a p rs

  -- a node with this value and these links
  abbrev pub node : F → (child sibling up alternate : Option ℕ) → Node F
  node v c s u o = record { value = v; child = c; sibling = s; up = u; alternate = o }

  -- a fiber, if it has a node, with the lists from its links
  abbrev pub spelled : ℕ → Option (Core F) → (Option ℕ → Shape F) → Shape F
  spelled id None f = none
  spelled id (Some (core v c s)) f = fiber id v (f c) (f s)

  -- the list from a link, to this depth
  unfoldable pub shape_of : ℕ → Nodes F → Option ℕ → Shape F
  shape_of zero a link = none
  shape_of (suc n) a None = none
  shape_of (suc n) a (Some id) = spelled id (core_at a id) (shape_of n a)

  -- a list of fibers can be read from the link
  pub record IsRead (a : Nodes F) (link : Option ℕ) : Type 0 where
    pub reads : Reads a (shape_of limit a link)
    pub leads : first (shape_of limit a link) ≡ link
    pub small : size (shape_of limit a link) ≤ limit
