-- The plain machine, as contracts see it.
use Rattle.std.specs.Prelude.{ℕ, List, Option}
use Rattle.rx_base.specs.declared.cut.Cut.{Cut}
use Rattle.rx_lane.specs.Lanes.{Lanes}
use Rattle.rx_elem.specs.Numbers.{Numbers}
use Rattle.rx_elem.specs.Trees.{Node}
use Rattle.rx_effect.specs.EffectLog.{Passive}
use Rattle.rx_hook_store.specs.Store as hooks
use Rattle.rx_fresh.specs.Evaluated.{Evaluation}
use Rattle.rx_resources.specs.Kept.{Kept}
use Rattle.rx_resources.specs.Seen.{Resources}
use Rattle.rx_sched.specs.declared.event.Event.{Event}
use Rattle.rx_sched.specs.Schedule.{Schedule}

-- A render in progress: its lanes, how far it sees the journal, what it sees of the resources, the units that it has used so far, and the lanes of the updates since it began. How many bodies it has evaluated is not kept.
pub record Going : Type 0 where
  pub lanes : Lanes
  pub cut : Cut
  pub seen : Resources
  pub units : ℕ
  pub later : Lanes

-- The committed tree, without the vacant places at the ends of its lists; the hooks; what the last evaluations of bodies gave, by the numbers of the instances; the lanes; how many commits there were, how many resolutions the last one saw, and how many updates and resolutions there were; what is kept of the resources; the clock; the event that goes on; the numbers that come next; the passive effects that are pending; and the render in progress
pub record Plained : Type 0 where
  pub tree : Option Node
  pub hooks : hooks.Kept
  pub evaluations : List (ℕ × Evaluation)
  pub schedule : Schedule
  pub commits : ℕ
  pub seen : ℕ
  pub updates : ℕ
  pub resolutions : ℕ
  pub resources : List Kept
  pub now : ℕ
  pub event : Event
  pub numbers : Numbers
  pub passive : Passive
  pub going : Option Going
