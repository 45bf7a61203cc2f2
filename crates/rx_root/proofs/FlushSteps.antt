-- The turns of a flush, one after another, and the room that they leave.
use Rattle.rx_sched.specs.Events.{no_event}
use Rattle.std.proofs.Common.{◌≡◌, ◌≢◌, ℕ, zero, suc, ◌+◌, ◌-◌, ◌≤◌, refl, sym, ◌∙◌, subst, arith, Option, None}
use Rattle.rx_ast.specs.Syntax.{Program}
use Rattle.rx_sched.specs.declared.choice.Choice.TheVariants as choice
use Rattle.rx_lines.specs.Lines.{Written}
use Rattle.rx_model.specs.State.{State}
use Rattle.rx_model.specs.Stretch.{Stretch}
use Rattle.rx_model.specs.Turns.{OfRender, Turn, choice_of}
use Rattle.rx_model.specs.Machine.{FlushWithin}
use Rattle.rx_model.specs.Laws.{IsBounded}
use Rattle.rx_root.specs.Rooted.{Rooted}
use Rattle.rx_root.specs.Stands.{Stands}
use Rattle.rx_root.specs.Paying.{Pays}
use Rattle.rx_root.specs.Turning.{HasRoomForTurns, LeavesRoom, CanFlush, FlushesFrom, Takes}
use Rattle.rx_kept.proofs.TurnReached.{reached_passive, turn_event}
use Rattle.rx_root.proofs.FlushEnds.{flush_over, flush_on}
use Rattle.rx_root.proofs.TurnRoom.{turn_grows, room_after}
use Rattle.rx_root.proofs.TurnsTaken.{flush_more}

-- Room

-- a turn leaves room
pub turn_leaves : (p : Program) (s : State) (budget : Option ℕ) (v w : Rooted) (log new : Written) (steps counted : ℕ) → IsBounded v.rendering.program → Stands p s v → s.event ≡ no_event
    → Takes p (Turn Pays p s budget) w log new steps counted → LeavesRoom 1 v w
turn_leaves p s budget v w log new steps counted bounded h none t =
    let grows = turn_grows Pays p (subst IsBounded h.program bounded) s budget t.stretch h.reached (reached_passive p s h.reached none) t.asked in
    record {
      room = λ more room.
          let same : 1 + more ≡ suc more = omega arith in
          room_after p s t.stretch.after _ _ v w more h t.done.stands grows (subst (λ (n : ℕ). HasRoomForTurns n v) same room);
      updates = t.done.stands.updates ∙ grows.updates ∙ sym h.updates;
      resolutions = t.done.stands.resolutions ∙ grows.resolutions ∙ sym h.resolutions;
    }

-- what does nothing leaves room
pub same_leaves : (turns : ℕ) (v : Rooted) → LeavesRoom turns v v
same_leaves turns v =
    record {
      room = λ more room. record { commits = omega (arith, room.commits); instances = omega (arith, room.instances); hosts = omega (arith, room.hosts) };
      updates = refl;
      resolutions = refl;
    }

-- and so do turns that follow
pub leaves_more : (limit : ℕ) (v x w : Rooted) → 1 ≤ limit → LeavesRoom 1 v x → LeavesRoom (limit - 1) x w → LeavesRoom limit v w
leaves_more limit v x w some first rest =
    record {
      room = λ more room.
          let sum : limit + more ≡ 1 + (limit - 1 + more) = omega (arith, some) in
          rest.room more (first.room (limit - 1 + more) (subst (λ (n : ℕ). HasRoomForTurns n v) sum room));
      updates = rest.updates ∙ first.updates;
      resolutions = rest.resolutions ∙ first.resolutions;
    }

-- after one turn there is room for those that are left
pub room_left : (limit : ℕ) (v x : Rooted) → 1 ≤ limit → LeavesRoom 1 v x → HasRoomForTurns limit v → HasRoomForTurns (limit - 1) x
room_left limit v x some first room =
    let sum : limit ≡ 1 + (limit - 1) = omega (arith, some) in first.room (limit - 1) (subst (λ (n : ℕ). HasRoomForTurns n v) sum room)

-- Renders that are left

-- if something is to be rendered, some render is left
pub some_render : (limit : ℕ) (p : Program) (s : State) → CanFlush limit p s → choice_of s ≢ choice.None → 1 ≤ limit
some_render zero p s ends some = absurd (some (flush_over p s ends))
some_render (suc n) p s ends some = omega arith

less_renders : (A : OfRender) (limit : ℕ) (p : Program) (s : State) (first : Stretch) → CanFlush limit p s → choice_of s ≢ choice.None → Turn A p s None first → CanFlush (limit - 1) p first.after
less_renders A zero p s first ends some turn = absurd (some (flush_over p s ends))
less_renders A (suc n) p s first ends some turn =
    let same : n ≡ suc n - 1 = omega arith in subst (λ (k : ℕ). CanFlush k p first.after) same (flush_on A n p s first ends some turn)

-- a turn leaves a root that can go on with the flush
pub flushes_on : (limit : ℕ) (v x : Rooted) (log new : Written) (steps counted : ℕ) → (f : FlushesFrom limit v) → choice_of f.state ≢ choice.None
    → Takes f.program (Turn Pays f.program f.state None) x log new steps counted → FlushesFrom (limit - 1) x
flushes_on limit v x log new steps counted f some t =
    record {
      program = f.program;
      state = t.stretch.after;
      stands = t.done.stands;
      between = turn_event Pays f.program f.state None t.stretch f.between t.asked;
      ends = less_renders Pays limit f.program f.state t.stretch f.ends some t.asked;
    }

-- so a flush takes its turns
pub flush_takes : (limit : ℕ) (p : Program) (s : State) (x w : Rooted) (log mid new : Written) (steps between counted : ℕ) → 1 ≤ limit → choice_of s ≢ choice.None
    → (first : Takes p (Turn Pays p s None) x log mid steps between) → Takes p (FlushWithin Pays (limit - 1) p first.stretch.after) w mid new between counted
    → Takes p (FlushWithin Pays limit p s) w log new steps counted
flush_takes limit p s x w log mid new steps between counted some_left some first rest =
    let sum : suc (limit - 1) ≡ limit = omega (arith, some_left) in
    subst (λ (n : ℕ). Takes p (FlushWithin Pays n p s) w log new steps counted) sum (flush_more p s (limit - 1) x w log mid new steps between counted some first rest)

-- room for some turns is room for one
pub one_room : (limit : ℕ) (v : Rooted) → 1 ≤ limit → HasRoomForTurns limit v → HasRoomForTurns 1 v
one_room limit v some room =
    record { commits = omega (arith, some, room.commits); instances = omega (arith, some, room.instances); hosts = omega (arith, some, room.hosts) }
