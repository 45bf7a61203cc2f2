-- Nodes of fibers under ids, each with a child, a sibling, a return and an alternate link.
use Rattle.std.specs.Prelude.{◌≡◌, ◌≢◌, ℕ, eqb, Option, Some, None, IsSome, IfSome, ◌+◌, if◌then◌else◌, option_map, slice_set}
use Rattle.slab.specs.Slab.{Slab, get, slab_len}
use Rattle.rx_arena.specs.declared.arena.Node.{Node}

-- the link, or none if it leads to this id
abbrev pub cut : ℕ → Option ℕ → Option ℕ
cut id None = None
cut id (Some to) = if eqb to id then None else Some to

module _ {F : Type 0} where
  -- the node under an id
  abbrev pub at : Slab (Node F) → ℕ → Option (Node F)
  at a id = get a id

  -- the id has a node
  abbrev pub IsLive : Slab (Node F) → ℕ → Type 0
  IsLive a id = IsSome (at a id)

  -- each id has what it had
  abbrev pub Keeps : Slab (Node F) → Slab (Node F) → Type 0
  Keeps old new = (id : ℕ) → at new id ≡ at old id

  -- a node with these links and no child
  abbrev pub linked_node : F → (sibling up alternate : Option ℕ) → Node F
  linked_node value s u o = record { value = value; child = None; sibling = s; up = u; alternate = o }

  -- the node with another value
  abbrev pub with_value : F → Node F → Node F
  with_value value n = record n { value = value }

  -- the node with another child link
  abbrev pub with_child : Option ℕ → Node F → Node F
  with_child to n = record n { child = to }

  -- the node with another sibling link
  abbrev pub with_sibling : Option ℕ → Node F → Node F
  with_sibling to n = record n { sibling = to }

  -- the node with another return link
  abbrev pub with_up : Option ℕ → Node F → Node F
  with_up to n = record n { up = to }

  -- the node with another alternate link
  abbrev pub with_alternate : Option ℕ → Node F → Node F
  with_alternate to n = record n { alternate = to }

  -- the node, with no alternate link if that leads to this id
  abbrev pub cut_node : ℕ → Node F → Node F
  cut_node id n = record n { alternate = cut id n.alternate }

  -- what an id has, with no alternate link if that leads to this one
  abbrev pub without : ℕ → Option (Node F) → Option (Node F)
  without id slot = option_map (cut_node id) slot

  -- the alternate link of what an id has, if it has a node
  abbrev pub alternate_in : Option (Node F) → Option ℕ
  alternate_in None = None
  alternate_in (Some n) = n.alternate

  -- the alternate of each id's alternate is the id
  pub record AreMutual (a : Slab (Node F)) : Type 0 where
    pub back : (id to : ℕ) → alternate_in (at a id) ≡ Some to → alternate_in (at a to) ≡ Some id

  -- f changed the node of one id, and every other id has what it had
  pub record Changes (f : Node F → Node F) (old new : Slab (Node F)) (id : ℕ) : Type 0 where
    pub changed : at new id ≡ option_map f (at old id)
    pub others : (other : ℕ) → other ≢ id → at new other ≡ at old other
    pub live : slab_len new ≡ slab_len old
    pub capacity : new.capacity ≡ old.capacity

  -- the alternate link of the node that a link leads to was set, and nothing else changed
  pub record LeadsBack (old new : Slab (Node F)) (link to : Option ℕ) : Type 0 where
    pub here : IfSome link (λ j. at new j ≡ option_map (with_alternate to) (at old j))
    pub others : (i : ℕ) → link ≢ Some i → at new i ≡ at old i
    pub live : slab_len new ≡ slab_len old
    pub capacity : new.capacity ≡ old.capacity

  -- a new node, it and its alternate, if any, are alternates of each other, and nothing else changed
  pub record Joins (old new : Slab (Node F)) (id : ℕ) (n : Node F) : Type 0 where
    pub vacant : at old id ≡ None
    pub made : at new id ≡ Some n
    pub other : IfSome n.alternate (λ j. at new j ≡ option_map (with_alternate (Some id)) (at old j))
    pub others : (i : ℕ) → i ≢ id → n.alternate ≢ Some i → at new i ≡ at old i
    pub live : slab_len new ≡ slab_len old + 1
    pub capacity : new.capacity ≡ old.capacity

  -- the node is gone, the alternate link that led to it is cut, and nothing else changed
  pub record Releases (old new : Slab (Node F)) (id : ℕ) : Type 0 where
    pub gone : at new id ≡ None
    pub others : (other : ℕ) → other ≢ id → at new other ≡ without id (at old other)
    pub live : slab_len new + 1 ≡ slab_len old
    pub capacity : new.capacity ≡ old.capacity

  -- the nodes with this value at an id
  abbrev pub value_written : Slab (Node F) → ℕ → F → Slab (Node F)
  value_written a id value = record a { slots = slice_set a.slots id (option_map (with_value value) (at a id)) }
