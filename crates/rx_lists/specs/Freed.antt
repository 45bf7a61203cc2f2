-- Lists of fibers that are released, without what they share.
use Rattle.std.specs.Prelude.{◌≡◌, ℕ, ◌≤◌, Option, Some, None, if◌then◌else◌, option_map}
use Rattle.slab.specs.Slab.{slab_len}
use Rattle.rx_arena.specs.Nodes.{at, with_alternate}
use Rattle.rx_arena.specs.declared.arena.Node.{Node}
use Rattle.rx_lists.specs.Links.{child_at, child_under, same_link, is_shared}
use Rattle.rx_lists.specs.Reads.{Nodes, alternate_at, limit, shape_of, IsRead}
use Rattle.rx_lists.specs.Shapes.{Shape, none, fiber, Holds, IsTree}

module _ {F : Type 0} where
  -- the list without the children that are also those of an alternate
  abbrev pub own_part : Nodes F → Shape F → Shape F
  own_part a none = none
  own_part a (fiber id v ks rs) = fiber id v (if is_shared a id then none else own_part a ks) (own_part a rs)

  -- the same of the list from a link
  abbrev pub own_list : Nodes F → Option ℕ → Shape F
  own_list a link = own_part a (shape_of limit a link)

  -- the link of this node to children that are not also those of its alternate
  abbrev pub own_in : Nodes F → Node F → Option ℕ
  own_in a n = if same_link n.child (child_under a n.alternate) then None else n.child

  -- the link to the children that are the node's alone
  abbrev pub own_link : Nodes F → ℕ → Option ℕ
  own_link a id = if is_shared a id then None else child_at a id

  -- the list can be released: it is a tree, and none of it is an alternate of another
  pub record IsReady (a : Nodes F) (link : Option ℕ) : Type 0 where
    pub read : IsRead a link
    pub once : IsTree (shape_of limit a link)
    pub apart : (i j : ℕ) → Holds (own_list a link) i → alternate_at a i ≡ Some j → Holds (own_list a link) j → ⊥

  -- the node without its alternate link
  abbrev pub bare_at : Nodes F → ℕ → Option (Node F)
  bare_at a i = option_map (with_alternate None) (at a i)

  -- the nodes that P tells of are gone, with the links to them, and all else stays
  pub record Frees (old new : Nodes F) (P : ℕ → Type 0) : Type 0 where
    pub gone : (i : ℕ) → P i → at new i ≡ None
    pub vacant : (i : ℕ) → at old i ≡ None → at new i ≡ None
    pub kept : (i : ℕ) → (P i → ⊥) → bare_at new i ≡ bare_at old i
    pub cuts : (i j : ℕ) → alternate_at new i ≡ Some j → (alternate_at old i ≡ Some j) × (P j → ⊥)
    pub stays : (i j : ℕ) → (P i → ⊥) → (P j → ⊥) → alternate_at old i ≡ Some j → alternate_at new i ≡ Some j
    pub count : slab_len new ≤ slab_len old
