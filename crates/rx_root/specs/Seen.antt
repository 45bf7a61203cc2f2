-- What can be seen of a root, beside its trees and hooks.
use Rattle.std.specs.Prelude.{◌≡◌, ℕ, Bool, not, ◌&&◌, Option, option_map}
use Rattle.rx_lane.specs.declared.lane.Lane.{Lane}
use Rattle.rx_lane.specs.Lanes.{Lanes, has, is_transition, one}
use Rattle.rx_sched.specs.Deadlines.{is_expired}
use Rattle.rx_sched.specs.Schedule.{Schedule, is_sliced}
use Rattle.rx_model.specs.State.{State, Progress}
use Rattle.rx_root.specs.declared.seen.InProgress.{InProgress}

-- a render in progress, by its lanes and the units and bodies that it has used so far
abbrev pub progress_seen : Option Progress → Option InProgress
progress_seen progress = option_map (λ g. record { lanes = g.lanes; units = g.units; bodies = g.bodies }) progress

-- the lanes of a set are the transition lanes that have reached their deadlines by now
abbrev pub AreExpired : Schedule → (now : ℕ) → Lanes → Type 0
AreExpired s now lanes = (l : Lane) → has lanes l ≡ (is_transition l && is_expired s.deadlines now l)

-- they are those of a state
abbrev pub HasExpired : State → Lanes → Type 0
HasExpired s lanes = AreExpired s.schedule s.now lanes

-- a render of this lane alone is one of a transition, and is not cut into slices
abbrev pub overdue : Schedule → ℕ → Lane → Bool
overdue s now l = is_transition l && not (is_sliced s (one l) now)
