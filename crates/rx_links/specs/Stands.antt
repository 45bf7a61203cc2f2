-- Which two plain trees the nodes of an arena stand for.
use Rattle.std.specs.Prelude.{◌≡◌, ℕ, ◌<◌, ◌⊎◌, Option, Some, None, IsSome}
use Rattle.slab.specs.Slab.{slab_len}
use Rattle.rx_arena.specs.Nodes.{at}
use Rattle.rx_lists.specs.Reads.{Nodes, alternate_at, Reads, Returns, node, limit}
use Rattle.rx_lists.specs.Shapes.{Shape, first, Holds, IsTree}
use Rattle.rx_links.specs.Drafts.{Draft, taken, made, Trees, entry, Makes, IsMadeOnce, IsFor, Follows}

-- the nodes, the current root and the root in progress
pub record Roots (F : Type 0) : Type 0 where
  pub nodes : Nodes F
  pub current : Option ℕ
  pub draft : Option ℕ

module _ {F : Type 0} where
  -- the nodes of made fibers are those of the draft
  abbrev pub Drafts : Nodes F → Option ℕ → Draft F → Type 0
  Drafts a p (taken s) = Unit {0}
  Drafts a p (made id v o ks rs) =
      (at a id ≡ Some (node v (entry ks) (entry rs) p o)) × Drafts a (Some id) ks × Drafts a p rs

  -- the nodes stand for these two trees. Child and sibling links from both roots read as them; return links of current fibers lead
  -- to the current parent, and those of made ones to the made parent; each made fiber and the current one that it is for are
  -- alternates, and there are no other alternates and no other nodes
  pub record Stands (t : Roots F) (c : Shape F) (w : Draft F) : Type 0 where
    pub leads_current : t.current ≡ first c
    pub leads_draft : t.draft ≡ entry w
    pub reads : Reads t.nodes c
    pub returns : Returns t.nodes None c
    pub drafts : Drafts t.nodes None w
    pub once : IsTree c
    pub made_once : IsMadeOnce w
    pub apart : (i : ℕ) → Holds c i → Makes w i → ⊥
    pub follows : Follows c w
    pub back : (i j : ℕ) → IsFor w i (Some j) → alternate_at t.nodes j ≡ Some i
    pub links : (i j : ℕ) → alternate_at t.nodes i ≡ Some j → IsFor w i (Some j) ⊎ IsFor w j (Some i)
    pub all : (i : ℕ) → IsSome (at t.nodes i) → Holds c i ⊎ Makes w i

-- the nodes stand for these two trees, and are not too many
pub record Shows {F : Type 0} (t : Roots F) (trees : Trees F) : Type 0 where
  pub stands : Stands t trees.current trees.draft
  pub small : slab_len t.nodes < limit
