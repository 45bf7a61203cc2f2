-- Which nodes the fibers of a list stand for.
use Rattle.std.specs.Prelude.{◌≡◌, ℕ, suc, Bool, true, false, ◌∷◌, [], Option, Some, None}
use Rattle.rx_elem.specs.Elements.{Element}
use Rattle.rx_elem.specs.Trees.{Mark, Node, node, Forest, none, vacant, child, forest, is_hidden, shows_fallback, awaits_in}
use Rattle.rx_lists.specs.Shapes.{Shape, fiber}
use Rattle.rx_lists.specs.Shapes as shapes
use Rattle.rx_links.specs.Drafts.{list_at}
use Rattle.rx_fiber.specs.Fibers.{Fiber, begun, fallback}

-- a list of places has a node
abbrev pub has_node : Forest → Bool
has_node none = false
has_node (vacant ns) = has_node ns
has_node (child n ns) = true

-- the fiber stands for a node at this place, with this element and mark
pub record IsOf (v : Fiber) (place : ℕ) (e : Element) (m : Mark) : Type 0 where
  pub at : v.place ≡ place
  pub element : v.element ≡ e
  pub stage : v.stage ≡ begun m

-- A list of fibers, from a place on, stands for these places: a node has one fiber with its children below it, and a place without a node has none.
-- A boundary that shows its fallback and keeps no node has that as its children; a hidden one that keeps some has these as its children, and a fiber of its fallback right behind it.
mutual
  pub data AreFor : (place : ℕ) → Forest → Shape Fiber → Type 0 where
    no_more : {n : ℕ} → AreFor n none shapes.none
    gap : {n : ℕ} {ns : Forest} {s : Shape Fiber} → AreFor (suc n) ns s → AreFor n (vacant ns) s
    next : {n : ℕ} {x : Node} {ns : Forest} {s rest : Shape Fiber} → IsFor n x s rest → AreFor (suc n) ns rest → AreFor n (child x ns) s

  -- the list begins with the fibers of this node, at this place, and goes on with the rest
  pub data IsFor : (place : ℕ) → Node → (list rest : Shape Fiber) → Type 0 where
    whole : {n id : ℕ} {v : Fiber} {e : Element} {m : Mark} {ns : Forest} {ks rest : Shape Fiber}
        → IsOf v n e m → shows_fallback m ≡ false → AreFor 0 ns ks → IsFor n (node e m ns none) (fiber id v ks rest) rest
    alone : {n id : ℕ} {v : Fiber} {e : Element} {m : Mark} {ns fs : Forest} {ks rest : Shape Fiber}
        → IsOf v n e m → shows_fallback m ≡ true → has_node ns ≡ false → AreFor 0 fs ks → IsFor n (node e m ns fs) (fiber id v ks rest) rest
    beside : {n id jd : ℕ} {v w : Fiber} {e : Element} {m : Mark} {ns fs : Forest} {ks ws rest : Shape Fiber}
        → IsOf v n e m → is_hidden m ≡ true → has_node ns ≡ true → AreFor 0 ns ks → w.stage ≡ fallback (awaits_in m) → AreFor 0 fs ws
        → IsFor n (node e m ns fs) (fiber id v ks (fiber jd w ws rest)) rest

-- a list of fibers is that of a tree, or empty if there is none
abbrev pub IsTreeOf : Option Node → Shape Fiber → Type 0
IsTreeOf tree s = AreFor 0 (forest (tree ∷ [])) s

-- the current fiber of a node: none if there is no node. The list from the fiber on stands for the node and those after it.
pub data IsOld (current : Shape Fiber) : Option ℕ → Option Node → Type 0 where
  new : IsOld current None None
  of : {j n : ℕ} {x : Node} {ns : Forest} {s : Shape Fiber} → list_at current j ≡ Some s → shapes.first s ≡ Some j → AreFor n (child x ns) s
      → IsOld current (Some j) (Some x)
