-- What the fibers of a list wait for that are visible.
use Rattle.std.specs.Prelude.{ℕ, Bool, false, not, ◌&&◌, ◌||◌, if◌then◌else◌}
use Rattle.rx_base.specs.Awaits.{Awaits, has, nothing}
use Rattle.rx_elem.specs.Trees.{awaits_in}
use Rattle.rx_lists.specs.Shapes.{Shape, none, fiber}
use Rattle.rx_fiber.specs.Fibers.{Stage, Fiber, waiting, begun, trying, guarding, fallback}
use Rattle.rx_fiber.specs.OldLists.{begins_fallback}

-- what a fiber of this stage waits for: that of a hidden boundary for what this waits for, and each other one for nothing
abbrev pub stage_awaits : Stage → Awaits
stage_awaits (waiting c) = nothing
stage_awaits (begun m) = awaits_in m
stage_awaits (trying c) = nothing
stage_awaits guarding = nothing
stage_awaits (fallback a) = nothing

-- the visible children of the first fiber of a list: none if it keeps its children behind its fallback, whose fiber comes next
abbrev pub visible_kids : Shape Fiber → Shape Fiber
visible_kids none = none
visible_kids (fiber id v ks rs) = if begins_fallback rs then none else ks

-- a visible fiber of a list, or one below it that is visible, waits for a resource
abbrev pub waits_list : Shape Fiber → ℕ → Bool
waits_list none r = false
waits_list (fiber id v ks rs) r = (has (stage_awaits v.stage) r || (not (begins_fallback rs) && waits_list ks r)) || waits_list rs r

-- the same for the first fiber of a list alone, with what is below it
abbrev pub waits_first : Shape Fiber → ℕ → Bool
waits_first none r = false
waits_first (fiber id v ks rs) r = has (stage_awaits v.stage) r || (not (begins_fallback rs) && waits_list ks r)
