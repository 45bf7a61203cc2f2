-- How the nodes change when a fiber is made.
use Rattle.std.specs.Prelude.{◌≡◌, ◌≢◌, ℕ, ◌+◌, Option, Some, None, IfSome, option_map}
use Rattle.slab.specs.Slab.{slab_len}
use Rattle.rx_arena.specs.Nodes.{at, with_child, with_sibling, with_alternate}
use Rattle.rx_arena.specs.declared.arena.Node.{Node}
use Rattle.rx_lists.specs.Reads.{Nodes, alternate_at, node}

module _ {F : Type 0} where
  -- a new node whose later siblings are the children of another
  abbrev pub child_node : F → ℕ → Option ℕ → Node F → Node F
  child_node value parent o n = node value None n.child (Some parent) o

  -- a new node between another and its later siblings
  abbrev pub sibling_node : F → Option ℕ → Node F → Node F
  sibling_node value o n = node value None n.sibling n.up o

  -- no alternate link leads there
  abbrev pub IsAlone : Nodes F → ℕ → Type 0
  IsAlone a j = (i : ℕ) → alternate_at a i ≢ Some j

  -- a new node, an alternate of the old one, is the first child of another
  pub record Grows (old new : Nodes F) (parent id : ℕ) (value : F) (o : Option ℕ) : Type 0 where
    pub vacant : at old id ≡ None
    pub made : at new id ≡ option_map (child_node value parent o) (at old parent)
    pub parented : at new parent ≡ option_map (with_child (Some id)) (at old parent)
    pub other : IfSome o (λ j. at new j ≡ option_map (with_alternate (Some id)) (at old j))
    pub others : (i : ℕ) → i ≢ id → i ≢ parent → o ≢ Some i → at new i ≡ at old i
    pub live : slab_len new ≡ slab_len old + 1

  -- a new node, an alternate of the old one, is right behind another
  pub record Inserts (old new : Nodes F) (sibling id : ℕ) (value : F) (o : Option ℕ) : Type 0 where
    pub vacant : at old id ≡ None
    pub made : at new id ≡ option_map (sibling_node value o) (at old sibling)
    pub linked : at new sibling ≡ option_map (with_sibling (Some id)) (at old sibling)
    pub other : IfSome o (λ j. at new j ≡ option_map (with_alternate (Some id)) (at old j))
    pub others : (i : ℕ) → i ≢ id → i ≢ sibling → o ≢ Some i → at new i ≡ at old i
    pub live : slab_len new ≡ slab_len old + 1

  -- a new node, an alternate of the old one, stands alone
  pub record Adds (old new : Nodes F) (id : ℕ) (value : F) (o : Option ℕ) : Type 0 where
    pub vacant : at old id ≡ None
    pub made : at new id ≡ Some (node value None None None o)
    pub other : IfSome o (λ j. at new j ≡ option_map (with_alternate (Some id)) (at old j))
    pub others : (i : ℕ) → i ≢ id → o ≢ Some i → at new i ≡ at old i
    pub live : slab_len new ≡ slab_len old + 1
