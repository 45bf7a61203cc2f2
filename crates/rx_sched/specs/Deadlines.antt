-- When a lane expires.
use Rattle.std.specs.Prelude.{ℕ, ◌+◌, ◌-◌, ◌^◌, min, Bool, false, List, Option, Some, None, nat_le, map, slice_index_or, if◌then◌else◌}
use Rattle.rx_lane.specs.declared.lane.Lane.{Lane}
use Rattle.rx_lane.specs.declared.lane.Lane.TheVariants.{Input, Retry}
use Rattle.rx_lane.specs.Lanes.{Lanes, priority, same_lane, has, all_lanes}

-- of each lane, highest first, the moment at which it expires, if it has one
abbrev pub Deadlines : Type 0
Deadlines = List (Option ℕ)

-- the clock and the deadlines stop here
abbrev pub last_moment : ℕ
last_moment = 2 ^ 64 - 1

-- some time after a moment
abbrev pub later : ℕ → ℕ → ℕ
later now n = min (now + n) last_moment

-- how long a lane may wait: Sync and Input 250, Default and the transitions 5,000, Retry for ever
abbrev pub patience : Lane → Option ℕ
patience l =
    if nat_le (priority l) (priority Input) then Some 250
    else if same_lane l Retry then None
    else Some 5000

-- the moment that comes so long after another, if there is an end to it
abbrev pub after : ℕ → Option ℕ → Option ℕ
after now None = None
after now (Some n) = Some (later now n)

-- the deadline of a lane that becomes pending now
abbrev pub deadline_from : ℕ → Lane → Option ℕ
deadline_from now l = after now (patience l)

-- no lane has a deadline
abbrev pub no_deadlines : Deadlines
no_deadlines = map (λ l. None) all_lanes

-- the deadline of a lane
abbrev pub deadline_of : Deadlines → Lane → Option ℕ
deadline_of deadlines l = slice_index_or deadlines (priority l) None

-- now has reached a moment
abbrev pub has_passed : ℕ → Option ℕ → Bool
has_passed now None = false
has_passed now (Some at) = nat_le at now

-- a lane has reached its deadline
abbrev pub is_expired : Deadlines → ℕ → Lane → Bool
is_expired deadlines now l = has_passed now (deadline_of deadlines l)

-- the lanes of a set get these deadlines, and the others keep theirs
unfoldable pub timed : Deadlines → Lanes → (Lane → Option ℕ) → Deadlines
timed deadlines lanes time = map (λ l. if has lanes l then time l else deadline_of deadlines l) all_lanes
