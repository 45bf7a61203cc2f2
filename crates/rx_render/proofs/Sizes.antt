-- How many fibers a tree in progress has.
use Rattle.std.specs.Prelude.{ℕ, ◌+◌, ◌*◌, ◌^◌, ◌≤◌, ◌<◌, Some}
use Rattle.std.proofs.Common.{arith}
use Rattle.rx_elem.specs.Trees.{Node}
use Rattle.rx_elem.specs.Spots.{node_count}
use Rattle.rx_lists.specs.Shapes.{size}
use Rattle.rx_links.specs.Drafts.{Draft, taken, made, grafted, made_size}
use Rattle.rx_fiber.specs.Fibers.{Fiber}
use Rattle.rx_fiber.specs.Reading.{IsTreeOf}
use Rattle.room_laws.proofs.Sizes.{few}

-- no more are made than there are
pub made_within : (w : Draft Fiber) → made_size w ≤ size (grafted w)
made_within (taken s) = omega arith
made_within (made id v o ks rs) = let a = made_within ks in let b = made_within rs in omega (arith, a, b)

-- the fibers of a tree in progress, once all of it is rendered
pub made_few : (x : Node) (w : Draft Fiber) → IsTreeOf (Some x) (grafted w) → made_size w ≤ 2 * node_count (Some x)
made_few x w h = omega (arith, few (Some x) (grafted w) h, made_within w)

-- so there is room for their numbers
pub has_room : (first : ℕ) (w : Draft Fiber) → first < 2 ^ 62 → (x : Node) × IsTreeOf (Some x) (grafted w) × (node_count (Some x) < 2 ^ 32) → first + made_size w < 2 ^ 64
has_room first w small (x, tree, few) = let a = made_few x w tree in omega (arith, a, few, small)
