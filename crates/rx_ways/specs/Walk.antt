-- What a walk finds that goes along hints: in a tree, and in the current fibers that stand for it.
use Rattle.std.specs.Prelude.{ℕ, Bool, false, not, ◌&&◌, ◌||◌, Option, None}
use Rattle.std.specs.Option.{option_map_or}
use Rattle.rx_elem.specs.Trees.{Forest, Node, child, mark_of, node, none, vacant}
use Rattle.rx_lists.specs.Shapes.{Shape, fiber}
use Rattle.rx_lists.specs.Shapes as shapes
use Rattle.rx_meaning.specs.Settled.{is_numbered_so, number_of}
use Rattle.rx_fiber.specs.Fibers.{Fiber, Stage, waiting, begun, trying, guarding, fallback}
use Rattle.rx_node.specs.Hides.{hides_within}
use Rattle.rx_node.specs.Mounts.{mounts_within}
use Rattle.rx_ways.specs.Leads.{is_cause}
use Rattle.rx_ways.specs.Ways.{Ways, is_way}

-- an instance stands on one of two ways
abbrev pub hinted : Ways → Ways → ℕ → Bool
hinted before sent n = is_way before n || is_way sent n

-- what is spared hides nothing, and has no instance, or is one with a number that no hint has
abbrev pub spares : (hint : ℕ → Bool) → (hides has_instance : Bool) → (number : Option ℕ) → Bool
spares hint hides has_instance number = not hides && (not has_instance || option_map_or (λ n. not (hint n)) number false)

-- a node is spared
abbrev pub is_spared : (hint : ℕ → Bool) → Node → Bool
is_spared hint x = spares hint (hides_within x) (mounts_within x) (number_of (mark_of x))

-- a cause stands at a node or below, spared nodes apart
abbrev mutual
  pub finds : (hint stirred : ℕ → Bool) → Node → Bool
  finds hint stirred (node e m ns fs) =
      not (is_spared hint (node e m ns fs)) && (is_cause stirred m || (finds_in hint stirred ns || finds_in hint stirred fs))

  -- the same for the trees of a list
  pub finds_in : (hint stirred : ℕ → Bool) → Forest → Bool
  finds_in hint stirred none = false
  finds_in hint stirred (vacant ns) = finds_in hint stirred ns
  finds_in hint stirred (child n ns) = finds hint stirred n || finds_in hint stirred ns

-- an instance has this number, and a cause stands at it or below, spared nodes apart
abbrev mutual
  pub puts : (hint stirred : ℕ → Bool) → ℕ → Node → Bool
  puts hint stirred n (node e m ns fs) =
      not (is_spared hint (node e m ns fs))
      && ((is_numbered_so n (number_of m) && finds hint stirred (node e m ns fs)) || (puts_in hint stirred n ns || puts_in hint stirred n fs))

  -- the same for the trees of a list
  pub puts_in : (hint stirred : ℕ → Bool) → ℕ → Forest → Bool
  puts_in hint stirred n none = false
  puts_in hint stirred n (vacant ns) = puts_in hint stirred n ns
  puts_in hint stirred n (child x ns) = puts hint stirred n x || puts_in hint stirred n ns

-- the number of the instance of a fiber, if it is one of a component and has one
abbrev pub number_at : Stage → Option ℕ
number_at (waiting c) = None
number_at (begun m) = number_of m
number_at (trying c) = None
number_at guarding = None
number_at (fallback a) = None

-- a fiber is a cause by its mark
abbrev pub is_cause_at : (stirred : ℕ → Bool) → Stage → Bool
is_cause_at stirred (waiting c) = false
is_cause_at stirred (begun m) = is_cause stirred m
is_cause_at stirred (trying c) = false
is_cause_at stirred guarding = false
is_cause_at stirred (fallback a) = false

-- a fiber is spared, as it keeps what is at or below it
abbrev pub is_spared_at : (hint : ℕ → Bool) → Fiber → Bool
is_spared_at hint v = spares hint v.subtree.hides v.subtree.instances (number_at v.stage)

-- a cause stands in a list of fibers or below, spared fibers apart
abbrev pub finds_among : (hint stirred : ℕ → Bool) → Shape Fiber → Bool
finds_among hint stirred shapes.none = false
finds_among hint stirred (fiber id v ks rs) =
    (not (is_spared_at hint v) && (is_cause_at stirred v.stage || finds_among hint stirred ks)) || finds_among hint stirred rs

-- the same of the first fiber of a list, with what is below it
abbrev pub finds_first : (hint stirred : ℕ → Bool) → Shape Fiber → Bool
finds_first hint stirred shapes.none = false
finds_first hint stirred (fiber id v ks rs) = not (is_spared_at hint v) && (is_cause_at stirred v.stage || finds_among hint stirred ks)

-- the instance of a fiber of a list or below has this number, and a cause stands at it or below, spared fibers apart
abbrev pub puts_among : (hint stirred : ℕ → Bool) → ℕ → Shape Fiber → Bool
puts_among hint stirred n shapes.none = false
puts_among hint stirred n (fiber id v ks rs) =
    (not (is_spared_at hint v)
    && ((is_numbered_so n (number_at v.stage) && (is_cause_at stirred v.stage || finds_among hint stirred ks)) || puts_among hint stirred n ks))
    || puts_among hint stirred n rs

-- the same of the first fiber of a list, with what is below it
abbrev pub puts_first : (hint stirred : ℕ → Bool) → ℕ → Shape Fiber → Bool
puts_first hint stirred n shapes.none = false
puts_first hint stirred n (fiber id v ks rs) =
    not (is_spared_at hint v)
    && ((is_numbered_so n (number_at v.stage) && (is_cause_at stirred v.stage || finds_among hint stirred ks)) || puts_among hint stirred n ks)
