-- What an update changes.
use Rattle.std.specs.Prelude.{ℕ, ◌+◌, Option, Some, None, option_map}
use Rattle.rx_lane.specs.declared.lane.Lane.{Lane}
use Rattle.rx_lane.specs.Lanes.{Lanes, one, union}
use Rattle.rx_sched.specs.Schedule.{after_update, linked}
use Rattle.rx_plain.specs.Plained.{Going, Plained}

-- a render goes on, and an update with this lane has come since it began
abbrev pub with_later : Lane → Going → Going
with_later l x = record x { later = union x.later (one l) }

-- a render goes on, and has used so many more units
abbrev pub with_units : ℕ → Going → Going
with_units n x = record x { units = x.units + n }

-- the machine after an update with this lane, which links lanes of its hook if it is a transition
abbrev pub accepted_by : Option Lanes → Lane → Plained → Plained
accepted_by None l v =
    record v { schedule = after_update v.schedule l v.now; updates = v.updates + 1; going = option_map (with_later l) v.going }
accepted_by (Some lanes) l v =
    record v { schedule = after_update (linked v.schedule lanes) l v.now; updates = v.updates + 1; event = record v.event { lane = Some l }; going = option_map (with_later l) v.going }
