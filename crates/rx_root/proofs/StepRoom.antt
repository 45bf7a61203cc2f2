-- The room that a step of rendering needs and leaves, once the event before it has ended.
use Rattle.rx_sched.specs.Events.{no_event}
use Rattle.std.proofs.Common.{◌≡◌, ℕ, suc, ◌+◌, ◌-◌, ◌*◌, ◌≤◌, refl, sym, subst, arith}
use Rattle.rx_ast.specs.Syntax.{Program}
use Rattle.rx_model.specs.State.{State}
use Rattle.rx_model.specs.Accepting.{between_events}
use Rattle.rx_model.specs.Machine.{flush_limit}
use Rattle.rx_root.specs.Rooted.{Rooted}
use Rattle.rx_root.specs.Stands.{HasRoomFor, Stands}
use Rattle.rx_root.specs.Turning.{HasRoomForTurns, LeavesRoom, StandsBetween}

-- the event has ended
pub stands_between : (p : Program) (s : State) (w : Rooted) → Stands p (between_events s) w → StandsBetween w
stands_between p s w h = record { program = p; state = between_events s; stands = h; between = refl }

-- room for a step is room for its turns
turns_room : (v : Rooted) (n : ℕ) → n ≤ flush_limit → HasRoomFor 1 v → HasRoomForTurns n (record v { event = no_event })
turns_room v n few h = record { commits = omega (arith, h.commits); instances = omega (arith, h.instances); hosts = omega (arith, h.hosts) }

pub room_for_turns : (v w : Rooted) (n : ℕ) → n ≤ flush_limit → w ≡ record v { event = no_event } → HasRoomFor 1 v → HasRoomForTurns n w
room_for_turns v w n few is h = subst (HasRoomForTurns n) (sym is) (turns_room v n few h)

-- the room that is left after the turns of a step
left_over : (v new : Rooted) (n : ℕ) → n ≤ flush_limit → LeavesRoom n (record v { event = no_event }) new → (k : ℕ) → HasRoomFor (suc k) v → HasRoomFor k new
left_over v new n few leaves k h =
    let more : ℕ = flush_limit * k + (flush_limit - n) in
    let all : n + more ≡ flush_limit * suc k = omega (arith, few) in
    let before : HasRoomForTurns (n + more) (record v { event = no_event }) =
    record { commits = omega (arith, h.commits, all); instances = omega (arith, h.instances, all); hosts = omega (arith, h.hosts, all) } in
    let after = leaves.room more before in
    record {
      updates = omega (arith, h.updates, leaves.updates);
      resolutions = omega (arith, h.resolutions, leaves.resolutions);
      commits = omega (arith, after.commits);
      instances = omega (arith, after.instances);
      hosts = omega (arith, after.hosts);
    }

pub room_left : (v w new : Rooted) (n : ℕ) → n ≤ flush_limit → w ≡ record v { event = no_event } → LeavesRoom n w new → (k : ℕ) → HasRoomFor (suc k) v → HasRoomFor k new
room_left v w new n few is leaves = left_over v new n few (subst (λ (r : Rooted). LeavesRoom n r new) is leaves)
