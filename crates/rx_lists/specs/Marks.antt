-- Values that change in the nodes that a test tells, and in their alternates.
use Rattle.std.specs.Prelude.{◌≡◌, ◌≢◌, ℕ, ◌||◌, Bool, false, Option, Some, None, IfSome, if◌then◌else◌, option_map}
use Rattle.slab.specs.Slab.{slab_len}
use Rattle.rx_arena.specs.declared.arena.Node.{Node}
use Rattle.rx_arena.specs.Nodes.{at}
use Rattle.rx_lists.specs.Shapes.{Holds, IsTree}
use Rattle.rx_lists.specs.Reads.{Nodes, alternate_at, limit, shape_of, IsRead}

-- the test passes for what the link leads to
abbrev pub at_link : (ℕ → Bool) → Option ℕ → Bool
at_link p None = false
at_link p (Some j) = p j

module _ {F : Type 0} where
  -- the node with its value changed by g
  abbrev pub revalued : (F → F) → Node F → Node F
  revalued g n = record n { value = g n.value }

  -- the value changed by m, if the test passes for the id or for its alternate
  abbrev pub touched : Nodes F → (ℕ → Bool) → (F → F) → ℕ → F → F
  touched a p m i v = if p i || at_link p (alternate_at a i) then m v else v

  -- each value is changed by k, which sees the id, and nothing else changed
  pub record Revalues (old new : Nodes F) (k : ℕ → F → F) : Type 0 where
    pub at_each : (i : ℕ) → at new i ≡ option_map (revalued (k i)) (at old i)
    pub live : slab_len new ≡ slab_len old

  -- what the link leads to is changed by g, and nothing else changed
  pub record Touches (old new : Nodes F) (link : Option ℕ) (g : F → F) : Type 0 where
    pub here : IfSome link (λ j. at new j ≡ option_map (revalued g) (at old j))
    pub others : (i : ℕ) → link ≢ Some i → at new i ≡ at old i
    pub live : slab_len new ≡ slab_len old

  -- the list can be marked: it is a tree, and none of it is the alternate of another
  pub record CanMark (a : Nodes F) (link : Option ℕ) : Type 0 where
    pub read : IsRead a link
    pub once : IsTree (shape_of limit a link)
    pub apart : (i j : ℕ) → Holds (shape_of limit a link) i → alternate_at a i ≡ Some j → Holds (shape_of limit a link) j → ⊥
