-- The marks of some trees, and of the fibers that stand for them, and what holds of them.
use Rattle.std.specs.Prelude.{◌≡◌, ℕ, Bool, true, false, not, ◌&&◌, ◌||◌, Option, Some, None, ◌⊎◌, option_and_then}
use Rattle.std.specs.Option.{option_map_or}
use Rattle.rx_elem.specs.Trees.{Forest, Mark, Node, child, is_hidden, node, none, vacant}
use Rattle.rx_lists.specs.Shapes.{Shape, fiber}
use Rattle.rx_lists.specs.Shapes as shapes
use Rattle.rx_links.specs.Readers.{value_of}
use Rattle.rx_meaning.specs.Settled.{number_of}
use Rattle.rx_fiber.specs.declared.subtree.Subtree.{Subtree}
use Rattle.rx_fiber.specs.Fibers.{Fiber, Stage, waiting, begun, trying, guarding, fallback}

-- The mark of an old node

-- the mark of a node that is begun
abbrev pub begun_mark : Stage → Option Mark
begun_mark (waiting c) = None
begun_mark (begun m) = Some m
begun_mark (trying c) = None
begun_mark guarding = None
begun_mark (fallback a) = None

-- the mark of an old node, by its current fiber
abbrev pub mark_at : Shape Fiber → Option ℕ → Option Mark
mark_at c o = option_and_then (λ v. begun_mark v.stage) (option_and_then (value_of c) o)

-- a cloned place keeps its children, if its old node, with this mark, is no boundary that hides them
abbrev pub keeps_children : (cloned : Bool) → Option Mark → Bool
keeps_children cloned m = cloned && not (option_map_or is_hidden m false)

-- What holds of marks

-- this holds of the mark of some node of a tree
abbrev mutual
  pub SomeNode : (Mark → Type 0) → Node → Type 0
  SomeNode P (node e m ns fs) = P m ⊎ (SomeNodeIn P ns ⊎ SomeNodeIn P fs)

  -- the same for the trees of a list
  pub SomeNodeIn : (Mark → Type 0) → Forest → Type 0
  SomeNodeIn P none = ⊥
  SomeNodeIn P (vacant ns) = SomeNodeIn P ns
  SomeNodeIn P (child n ns) = SomeNode P n ⊎ SomeNodeIn P ns

-- this holds of the mark of each fiber of a list, and of each below, if it has one
abbrev pub EachFiber : (Option Mark → Type 0) → Shape Fiber → Type 0
EachFiber P shapes.none = Unit {0}
EachFiber P (fiber id v ks rs) = P (begun_mark v.stage) × EachFiber P ks × EachFiber P rs

-- the mark of a fiber is that of an instance with a number that stands on no way
abbrev pub is_spared : (way : ℕ → Bool) → Option Mark → Bool
is_spared way m = option_map_or (λ n. not (way n)) (option_and_then number_of m) false

-- what a fiber keeps tells that neither an instance nor a hidden boundary is at or below it
abbrev pub is_free : Subtree → Bool
is_free s = not (s.instances || s.hides)

-- a fiber is passed: it is free, or its instance stands on no way
abbrev pub is_passed : (way : ℕ → Bool) → Fiber → Bool
is_passed way v = is_free v.subtree || is_spared way (begun_mark v.stage)

-- it is that of an instance with a number that stands on a way
abbrev pub stands_on_way : (way : ℕ → Bool) → Option Mark → Bool
stands_on_way way m = option_map_or way (option_and_then number_of m) false

-- this holds of the mark of each fiber of a list, and of each below, but of those of instances that stand on no way, and of all below these
abbrev pub EachFiberBut : (way : ℕ → Bool) → (Option Mark → Type 0) → Shape Fiber → Type 0
EachFiberBut way P shapes.none = Unit {0}
EachFiberBut way P (fiber id v ks rs) = ((is_spared way (begun_mark v.stage) ≡ true) ⊎ (P (begun_mark v.stage) × EachFiberBut way P ks)) × EachFiberBut way P rs

-- this holds of the mark of a fiber over these; and of each of these but for instances that stand on no way, unless the fiber is such a one's
abbrev pub IsFreeOver : (way : ℕ → Bool) → (Option Mark → Type 0) → Option Mark → (below : Shape Fiber) → Type 0
IsFreeOver way P m below = P m × ((is_spared way m ≡ true) ⊎ EachFiberBut way P below)

-- it holds of the mark of some fiber
abbrev pub SomeFiber : (Option Mark → Type 0) → Shape Fiber → Type 0
SomeFiber P shapes.none = ⊥
SomeFiber P (fiber id v ks rs) = P (begun_mark v.stage) ⊎ (SomeFiber P ks ⊎ SomeFiber P rs)

-- this holds of the mark of each node of a tree, but of those of instances that stand on no way, and of all below these
abbrev mutual
  pub EachBut : (way : ℕ → Bool) → (Mark → Type 0) → Node → Type 0
  EachBut way P (node e m ns fs) = (is_spared way (Some m) ≡ true) ⊎ (P m × EachButIn way P ns × EachButIn way P fs)

  -- the same for the trees of a list
  pub EachButIn : (way : ℕ → Bool) → (Mark → Type 0) → Forest → Type 0
  EachButIn way P none = Unit {0}
  EachButIn way P (vacant ns) = EachButIn way P ns
  EachButIn way P (child n ns) = EachBut way P n × EachButIn way P ns
