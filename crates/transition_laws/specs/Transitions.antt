-- The transitions of flags: which updates belong to one that a start began, and when they are settled (react.dev, useTransition).
use Rattle.std.specs.Prelude.{◌≡◌, ℕ, ◌+◌, Bool, false, not, ◌&&◌, ◌||◌, List, [], ◌∷◌, ◌++◌, Option, IsTrue, length, if◌then◌else◌}
use Rattle.std.specs.List.{list_all}
use Rattle.rx_lane.specs.declared.lane.Lane.{Lane}
use Rattle.rx_lane.specs.Lanes.{is_transition, same_lane}
use Rattle.rx_elem.specs.Trees.{Node}
use Rattle.rx_elem.specs.Spots.{visible_instances, kept_instances}
use Rattle.rx_queue.specs.History.{stands_done, stands_owed}
use Rattle.rx_queue.specs.Journal.{Target, hook, resource, same_target, Posted, belongs_to}

-- what a start began in the journal: its two updates of the flag, and the updates behind them that have the lane of the second
pub record Transition : Type 0 where
  pub setting : Posted
  pub unsetting : Posted
  pub others : List Posted

-- the updates at the front that have this lane: two events that follow each other have two transition lanes, so these are of one event
abbrev pub in_lane : Lane → List Posted → List Posted
in_lane l [] = []
in_lane l (u ∷ us) = if same_lane u.update.lane l then u ∷ in_lane l us else []

-- the transition that an update of a flag begins with those behind it: the first of a start's two updates has no transition lane
abbrev pub begun_by : (flag : Target) → Posted → List Posted → List Transition
begun_by flag u [] = []
begun_by flag u (v ∷ us) =
    if same_target flag u.target && not (is_transition u.update.lane) then (record { setting = u; unsetting = v; others = in_lane v.update.lane us }) ∷ [] else []

-- the transitions of a flag among these updates, in their order
abbrev pub transitions_in : (flag : Target) → List Posted → List Transition
transitions_in flag [] = []
transitions_in flag (u ∷ us) = begun_by flag u us ++ transitions_in flag us

-- the transition lane of a transition
abbrev pub lane_of : Transition → Lane
lane_of e = e.unsetting.update.lane

-- the updates of a transition that have its lane
abbrev pub marked_in : Transition → List Posted
marked_in e = e.unsetting ∷ e.others

-- all updates of a transition
abbrev pub updates_in : Transition → List Posted
updates_in e = e.setting ∷ marked_in e

-- a transition is started once its flag is set for good, from the commit on that shows so
abbrev pub IsStarted : Transition → Type 0
IsStarted e = IsTrue (stands_done e.setting.standing)

-- Settled updates

-- an update is done or owed
abbrev pub is_accounted : Posted → Bool
is_accounted u = stands_done u.standing || stands_owed u.standing

-- the instance of a target isn't mounted in a tree; a resource has none
abbrev pub is_gone : Option Node → Target → Bool
is_gone tree (hook i k) = not (belongs_to (visible_instances tree) (hook i k) || belongs_to (kept_instances tree) (hook i k))
is_gone tree (resource r) = false

-- an update is done, or owed, or its instance isn't mounted
abbrev pub is_settled : Option Node → Posted → Bool
is_settled tree u = is_accounted u || is_gone tree u.target

-- the updates of a transition that have its lane are settled
abbrev pub are_settled : Option Node → Transition → Bool
are_settled tree e = list_all (is_settled tree) (marked_in e)

-- all updates of a transition are settled
abbrev pub AllSettled : Option Node → Transition → Type 0
AllSettled tree e = IsTrue (list_all (is_settled tree) (updates_in e))

-- The end of the journal

-- the updates of a transition are the last ones of so many
abbrev pub IsLast : (count : ℕ) → Transition → Type 0
IsLast count e = e.unsetting.update.number + length e.others + 1 ≡ count
