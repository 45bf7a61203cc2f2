-- A fiber of the code as plain data.
use Rattle.rx_fiber.specs.Fibers as fibers
use Rattle.rx_fiber.specs.Fibers.{completed, numbered_stage, joined, own_subtree}
use Rattle.rx_elem.specs.Trees.{of_boundary, of_catcher}
use Rattle.rx_node.specs.MarkView.{mark_seen}
use Rattle.rx_fiber.specs.declared.stage.Stage.{Stage}
use Rattle.rx_fiber.specs.declared.stage.Stage.TheVariants as stage
use Rattle.rx_susp.specs.declared.boundary.BoundaryState.TheVariants as boundary
use Rattle.rx_catch.specs.declared.state.CatchState.TheVariants as catching
use Rattle.rx_fiber.specs.declared.stage.StageChange.{StageChange}
use Rattle.rx_fiber.specs.declared.stage.StageChange.TheVariants as change

-- how far a fiber has come
abbrev pub stage_seen : Stage → fibers.Stage
stage_seen (stage.Waiting c) = fibers.waiting c
stage_seen (stage.Begun m) = fibers.begun (mark_seen m)
stage_seen (stage.Trying c) = fibers.trying c
stage_seen stage.Guarding = fibers.guarding
stage_seen (stage.Fallback a) = fibers.fallback a

-- a fiber that has come to this stage
abbrev pub staged : Stage → fibers.Fiber → fibers.Fiber
staged s v = record v { stage = stage_seen s }

-- a fiber after a change
abbrev pub changed : StageChange → fibers.Fiber → fibers.Fiber
changed (change.Complete below) v = completed below v
changed (change.Try c) v = record v { stage = fibers.trying c }
changed (change.Hide a below) v =
    record v { stage = fibers.begun (of_boundary (boundary.Hidden a)); subtree = joined (own_subtree (fibers.begun (of_boundary (boundary.Hidden a)))) below }
changed (change.Catch x) v = record v { stage = fibers.begun (of_catcher (catching.Caught x)) }
changed (change.Number n) v = record v { stage = numbered_stage n v.stage }
