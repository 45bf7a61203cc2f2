-- Which steps can be taken, and what some of them change.
use Rattle.std.specs.Prelude.{◌≡◌, ℕ, true, List, is_none, if◌then◌else◌}
use Rattle.std.specs.List.{AllByRecursion}
use Rattle.rx_lane.specs.declared.lane.Lane.{Lane}
use Rattle.rx_lane.specs.Lanes.{Lanes}
use Rattle.rx_ast.specs.Syntax.{Program}
use Rattle.rx_sched.specs.declared.event.Event.{Event}
use Rattle.rx_sched.specs.Schedule.{Schedule, claimed}
use Rattle.rx_script.specs.Lines.{has_targets, in_bounds}
use Rattle.rx_step.specs.declared.step.LaneWord.{LaneWord}
use Rattle.rx_step.specs.declared.step.LaneWord.TheVariants as word
use Rattle.rx_step.specs.declared.step.Step.{Step}
use Rattle.rx_resources.specs.Kept.{Kept}
use Rattle.rx_resources.specs.Store.{asked_at, linked_at}

-- a step can be taken: all that it names is there, and its numbers are in their bounds
abbrev pub CanTake : Program → Step → Type 0
CanTake p x = (has_targets p x ≡ true) × (in_bounds p x ≡ true)

-- each of the steps can be taken
abbrev pub AllCanTake : Program → List Step → Type 0
AllCanTake p steps = AllByRecursion (CanTake p) steps

-- the first transition of an event claims its lane
abbrev pub claimed_by : LaneWord → (event : Event) → Schedule → Schedule
claimed_by word.Sync event s = s
claimed_by word.Input event s = s
claimed_by word.Default event s = s
claimed_by word.Transition event s = if is_none event.lane then claimed s else s

-- what is kept of the resources after another version of one is asked for: a transition links its lane with those of the resource
abbrev pub asked_for : LaneWord → (number : ℕ) → Lane → (pending : Lanes) → (resource : ℕ) → List Kept → List Kept
asked_for word.Sync n l pending r kept = asked_at n l r kept
asked_for word.Input n l pending r kept = asked_at n l r kept
asked_for word.Default n l pending r kept = asked_at n l r kept
asked_for word.Transition n l pending r kept = linked_at l pending r (asked_at n l r kept)
