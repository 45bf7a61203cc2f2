-- How the logic stores the trees of fibers.
use Rattle.std.specs.Coded.{Coded}
use Rattle.rx_links.specs.Drafts.{Trees}
use Rattle.rx_links.specs.View.{trees_code}
use Rattle.rx_fiber.specs.Fibers.{Fiber}
use Rattle.rx_fiber.specs.FiberCode.{fiber_code}

-- two trees of fibers as they are stored, from which they can be read back
abbrev pub fiber_trees_code : Coded (Trees Fiber)
fiber_trees_code = trees_code fiber_code
