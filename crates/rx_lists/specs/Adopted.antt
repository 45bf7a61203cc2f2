-- Return links that are made exact again.
use Rattle.std.specs.Prelude.{◌≡◌, ℕ, true, false, ◌⊎◌, Option, Some, None, option_map}
use Rattle.slab.specs.Slab.{slab_len}
use Rattle.rx_arena.specs.Nodes.{at, with_up}
use Rattle.rx_arena.specs.declared.arena.Node.{Node}
use Rattle.rx_lists.specs.Links.{is_shared}
use Rattle.rx_lists.specs.Reads.{Nodes, Returns, limit, shape_of, IsRead}
use Rattle.rx_lists.specs.Shapes.{Shape, none, fiber, Holds, IsTree, IsTop}

module _ {F : Type 0} where
  -- the node without its return link
  abbrev pub flat_at : Nodes F → ℕ → Option (Node F)
  flat_at a i = option_map (with_up None) (at a i)

  -- below each fiber of the list itself the return links are exact
  abbrev pub KidsReturn : Nodes F → Shape F → Type 0
  KidsReturn a none = Unit {0}
  KidsReturn a (fiber id v ks rs) = Returns a (Some id) ks × KidsReturn a rs

  -- below what an alternate has too they are exact
  abbrev pub SharedReturn : Nodes F → Shape F → Type 0
  SharedReturn a none = Unit {0}
  SharedReturn a (fiber id v ks rs) =
      (is_shared a id ≡ true → KidsReturn a ks) × (is_shared a id ≡ false → SharedReturn a ks) × SharedReturn a rs

  -- the id is below the list itself
  abbrev pub IsBelow : Shape F → ℕ → Type 0
  IsBelow none i = ⊥
  IsBelow (fiber id v ks rs) i = Holds ks i ⊎ IsBelow rs i

  -- the list can be adopted: it is a tree, and what an alternate has too is exact already
  pub record CanAdopt (a : Nodes F) (link : Option ℕ) : Type 0 where
    pub read : IsRead a link
    pub once : IsTree (shape_of limit a link)
    pub shared : SharedReturn a (shape_of limit a link)

  -- the list's own return links lead up, and all else stays
  pub record Relinks (old new : Nodes F) (s : Shape F) (up : ℕ) : Type 0 where
    pub linked : (i : ℕ) → IsTop s i → at new i ≡ option_map (with_up (Some up)) (at old i)
    pub others : (i : ℕ) → (IsTop s i → ⊥) → at new i ≡ at old i
    pub live : slab_len new ≡ slab_len old

  -- the return links below the list itself are exact, and all else stays
  pub record Adopts (old new : Nodes F) (s : Shape F) : Type 0 where
    pub returns : KidsReturn new s
    pub flat : (i : ℕ) → flat_at new i ≡ flat_at old i
    pub others : (i : ℕ) → (IsBelow s i → ⊥) → at new i ≡ at old i
    pub live : slab_len new ≡ slab_len old
