-- The way up the return links.
use Rattle.std.specs.Prelude.{◌≡◌, ℕ, zero, suc, ◌<◌, false, List, [], ◌∷◌, length, Option, Some, None, IsSome}
use Rattle.rx_arena.specs.Nodes.{at}
use Rattle.rx_lists.specs.Reads.{Nodes, up_at, alternate_at, limit}
use Rattle.rx_lists.specs.Shapes.{is_among}

module _ {F : Type 0} where
  -- the ids from a link up along the return links, at most this many
  unfoldable pub ups : ℕ → Nodes F → Option ℕ → List ℕ
  ups zero a link = []
  ups (suc n) a None = []
  ups (suc n) a (Some i) = i ∷ ups n a (up_at a i)

  -- each of these has a node, none is there twice, and none is the alternate of another
  abbrev pub AreAlone : Nodes F → List ℕ → Type 0
  AreAlone a [] = Unit {0}
  AreAlone a (x ∷ xs) =
      IsSome (at a x) × (is_among xs x ≡ false) × ((y : ℕ) → alternate_at a x ≡ Some y → is_among (x ∷ xs) y ≡ false) × AreAlone a xs

  -- the way up ends, and no two of it are alternates
  pub record IsWay (a : Nodes F) (link : Option ℕ) : Type 0 where
    pub ends : length (ups limit a link) < limit
    pub alone : AreAlone a (ups limit a link)
