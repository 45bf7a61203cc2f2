-- Events.
use Rattle.std.specs.Prelude.{Bool, false, None}
use Rattle.rx_sched.specs.declared.event.Event.{Event}

-- an event that begins, and has claimed no lane yet
abbrev pub new_event : (started : Bool) → Event
new_event started = record { lane = None; started = started }

-- no event goes on
abbrev pub no_event : Event
no_event = new_event false
