-- A root, as contracts see it.
use Rattle.rx_sched.specs.declared.event.Event.{Event}
use Rattle.std.specs.Prelude.{ℕ, List}
use Rattle.rx_lane.specs.Lanes.{Lanes}
use Rattle.rx_elem.specs.Numbers.{Numbers}
use Rattle.rx_sched.specs.Schedule.{Schedule}
use Rattle.rx_commit.specs.Shown.{Shown}
use Rattle.rx_resources.specs.Kept.{Kept}
use Rattle.rx_render.specs.Rendering.{Rendering}

-- The program with the fibers, the hooks and the render in progress; what is shown; the lanes; how many commits and updates there were, and how many resolutions; what is kept of the resources; the clock; the event that goes on; the numbers that come next; and the lanes of the updates since the render in progress began.
pub record Rooted : Type 0 where
  pub rendering : Rendering
  pub shown : Shown
  pub schedule : Schedule
  pub commits : ℕ
  pub updates : ℕ
  pub resolutions : ℕ
  pub resources : List Kept
  pub now : ℕ
  pub event : Event
  pub numbers : Numbers
  pub later : Lanes
