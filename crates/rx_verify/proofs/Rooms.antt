-- The room that turns need and leave.
use Rattle.std.proofs.Common.{◌≡◌, ℕ, ◌+◌, ◌-◌, ◌*◌, ◌≤◌, ◌<◌, ◌^◌, ◌∙◌, sym, ap, subst, arith}
use Rattle.rx_elem.specs.Numbers.{Numbers}
use Rattle.rx_ast.specs.Syntax.{Program}
use Rattle.rx_sched.specs.Events.{no_event}
use Rattle.rx_model.specs.Machine.{flush_limit}
use Rattle.rx_model.specs.State.{opening}
use Rattle.rx_plain.specs.Plained.{Plained}
use Rattle.rx_plain.specs.Stands.{HasRoomFor, HasRoomForTurns, LeavesRoom, StandsFor}

pub fewer_turns : (m n : ℕ) (v : Plained) → m ≤ n → HasRoomForTurns n v → HasRoomForTurns m v
fewer_turns m n v h r = record { commits = omega (arith, h, r.commits); instances = omega (arith, h, r.instances); hosts = omega (arith, h, r.hosts) }

-- nothing that room is asked for changes
pub leaves_same : (v w : Plained) → w.commits ≡ v.commits → w.numbers ≡ v.numbers → w.updates ≡ v.updates → w.resolutions ≡ v.resolutions → LeavesRoom 0 v w
leaves_same v w commits numbers updates resolutions =
    record {
      room = λ more r.
          record {
            commits = omega (arith, r.commits, commits);
            instances = omega (arith, r.instances, ap (λ (n : Numbers). n.instance) numbers);
            hosts = omega (arith, r.hosts, ap (λ (n : Numbers). n.host) numbers);
          };
      updates = updates;
      resolutions = resolutions;
    }

pub leaves_more : (m n : ℕ) (v w : Plained) → m ≤ n → LeavesRoom m v w → LeavesRoom n v w
leaves_more m n v w h l = record { room = λ more r. l.room more (fewer_turns (m + more) (n + more) v (omega (arith, h)) r); updates = l.updates; resolutions = l.resolutions }

pub leaves_join : (m n : ℕ) (u v w : Plained) → LeavesRoom m u v → LeavesRoom n v w → LeavesRoom (m + n) u w
leaves_join m n u v w a b =
    record {
      room = λ more r. b.room more (a.room (n + more) (fewer_turns (m + (n + more)) ((m + n) + more) u (omega arith) r));
      updates = b.updates ∙ a.updates;
      resolutions = b.resolutions ∙ a.resolutions;
    }

-- room for a step is room for its turns
pub step_turns : (v w : Plained) (n : ℕ) → n ≤ flush_limit → w ≡ record v { event = no_event } → HasRoomFor 1 v → HasRoomForTurns n w
step_turns v w n few is h =
    subst (HasRoomForTurns n) (sym is) (record { commits = omega (arith, few, h.commits); instances = omega (arith, few, h.instances); hosts = omega (arith, few, h.hosts) })

-- the room that is left after the turns of a step
left_over : (v new : Plained) (n : ℕ) → n ≤ flush_limit → LeavesRoom n (record v { event = no_event }) new → (k : ℕ) → HasRoomFor (k + 1) v → HasRoomFor k new
left_over v new n few leaves k h =
    let more : ℕ = flush_limit * k + (flush_limit - n) in
    let all : n + more ≡ flush_limit * (k + 1) = omega (arith, few) in
    let before : HasRoomForTurns (n + more) (record v { event = no_event }) =
    record { commits = omega (arith, h.commits, all); instances = omega (arith, h.instances, all); hosts = omega (arith, h.hosts, all) } in
    let after = leaves.room more before in
    record {
      updates = omega (arith, h.updates, leaves.updates);
      resolutions = omega (arith, h.resolutions, leaves.resolutions);
      commits = omega (arith, after.commits);
      instances = omega (arith, after.instances);
      hosts = omega (arith, after.hosts);
    }

pub step_left : (v w new : Plained) (n : ℕ) → n ≤ flush_limit → w ≡ record v { event = no_event } → LeavesRoom n w new → (k : ℕ) → HasRoomFor (k + 1) v → HasRoomFor k new
step_left v w new n few is leaves = left_over v new n few (subst (λ (r : Plained). LeavesRoom n r new) is leaves)

pub fewer_steps : (m n : ℕ) (v : Plained) → m ≤ n → HasRoomFor n v → HasRoomFor m v
fewer_steps m n v h r =
    record {
      updates = omega (arith, h, r.updates);
      resolutions = omega (arith, h, r.resolutions);
      commits = omega (arith, h, r.commits);
      instances = omega (arith, h, r.instances);
      hosts = omega (arith, h, r.hosts);
    }

-- at the start there is room for a script
pub start_room : (p : Program) (n : ℕ) (v : Plained) → n < 2 ^ 32 → StandsFor p opening v → HasRoomFor n v
start_room p n v few h =
    record {
      updates = omega (arith, few, h.updates);
      resolutions = omega (arith, few, h.resolutions);
      commits = omega (arith, few, h.commits);
      instances = omega (arith, few, ap (λ (k : Numbers). k.instance) h.numbers);
      hosts = omega (arith, few, ap (λ (k : Numbers). k.host) h.numbers);
    }
