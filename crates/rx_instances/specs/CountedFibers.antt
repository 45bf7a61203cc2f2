-- How much there is of a list of fibers.
use Rattle.std.specs.Prelude.{ℕ, ◌+◌, Bool}
use Rattle.rx_lists.specs.Shapes.{Shape, none, fiber}
use Rattle.rx_fiber.specs.Fibers.{Stage, Fiber, waiting, begun, trying, guarding, fallback}
use Rattle.rx_spots.specs.Counts.{own_count}

-- what a fiber of this stage counts: each one of a node, or only one of a boundary that is hidden
abbrev pub stage_count : (only_hidden : Bool) → Stage → ℕ
stage_count only_hidden (waiting c) = 0
stage_count only_hidden (begun m) = own_count only_hidden m
stage_count only_hidden (trying c) = 0
stage_count only_hidden guarding = 0
stage_count only_hidden (fallback a) = 0

-- how many are counted of a list of fibers and below
abbrev pub counted_list : (only_hidden : Bool) → Shape Fiber → ℕ
counted_list only_hidden none = 0
counted_list only_hidden (fiber id v ks rs) = (stage_count only_hidden v.stage + counted_list only_hidden ks) + counted_list only_hidden rs

-- the same for the first fiber of a list alone, with what is below it
abbrev pub counted_first : (only_hidden : Bool) → Shape Fiber → ℕ
counted_first only_hidden none = 0
counted_first only_hidden (fiber id v ks rs) = stage_count only_hidden v.stage + counted_list only_hidden ks
