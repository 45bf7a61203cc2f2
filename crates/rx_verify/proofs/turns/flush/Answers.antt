use Rattle.std.proofs.Common.{◌+◌, ◌-◌, inl, arith, refl, sym, ◌∙◌, subst}
use Rattle.rx_plain.specs.Stands.{HasRoomForTurns}
use Rattle.rx_verify.specs.Following.{flushes}
use Rattle.rx_verify.specs.Turning.{FollowsBetween}
use Rattle.rx_verify.proofs.Rooms.{fewer_turns, leaves_join, leaves_more, leaves_same}
use Rattle.rx_verify.proofs.Stepping.{flush-end-follows, flush-spent-follows, flush-turn-follows, judges-false, judges-true}
use Rattle.rx_verify.proofs.turns.flush.Goals as goal

pub turns-init : goal.turns-init
turns-init g c =
    record {
      stands = c.requires.stands;
      room = leaves_same c.args.plain.now c.args.plain.now refl refl refl refl;
      place = c.requires.place;
      followed = λ script left f. f;
    }

pub turn-requires-clause-room : goal.turn-requires-clause-room
turn-requires-clause-room g c =
    fewer_turns 1 (24 - c.turns.taken) c.turns.plain (omega (arith, c.turns-test.true))
    (c.turns.invariant.room.room (24 - c.turns.taken) (subst (λ k. HasRoomForTurns k c.args.plain.now) (omega (arith, c.turns-test.true)) c.requires.room))

pub returns-in-None-clause-judged : goal.returns-in-None-clause-judged
returns-in-None-clause-judged g c = λ script left f.
    let p = c.args.checked.now in
    let x = c.turns.invariant.followed script left f in
    flush-end-follows p c.known.ensures script c.args.report.now c.turns.place (24 - c.turns.taken) left c.turns.plain x (sym (c.in-None.ensures p x.at.state x.at.stands))

pub returns-in-None-clause-room : goal.returns-in-None-clause-room
returns-in-None-clause-room g c = leaves_more c.turns.taken 24 c.args.plain.now c.turns.plain (omega (arith, c.turns-test.true)) c.turns.invariant.room

pub returns-then-not-branch : goal.returns-then-not-branch
returns-then-not-branch g c =
    let p = c.args.checked.now in
    let m = 24 - (c.turns.taken + 1) in
    record {
      judged =
          λ script left f.
          let x = c.turns.invariant.followed script left f in
          let y = flush-turn-follows p c.known.ensures script c.args.report.now c.turns.place (24 - c.turns.taken) m left c.turns.plain (omega (arith, c.turns-test.true)) x (λ e. c.in_default.not-None (c.next_turn.ensures p x.at.state x.at.stands ∙ e)) in
          judges-false p script c.args.report.now c.turn.new.place (FollowsBetween p script c.args.report.now c.turn.new.place (flushes m left) c.turn.new.plain) _ c.if-not-branch.true (c.in_ok-turn.ensures.judged script (flushes m left) (inl refl) y);
      stands = λ e. cc;
      place = λ e. cc;
      room =
          leaves_more (c.turns.taken + 1) 24 c.args.plain.now c.turn.new.plain (omega (arith, c.turns-test.true))
          (leaves_join c.turns.taken 1 c.args.plain.now c.turns.plain c.turn.new.plain c.turns.invariant.room c.in_ok-turn.ensures.room);
    }

pub turns-preserved : goal.turns-preserved
turns-preserved g c =
    let p = c.args.checked.now in
    let m = 24 - (c.turns.taken + 1) in
    record {
      stands = c.in_ok-turn.ensures.stands c.if-not-branch.false;
      room = leaves_join c.turns.taken 1 c.args.plain.now c.turns.plain c.turn.new.plain c.turns.invariant.room c.in_ok-turn.ensures.room;
      place = c.in_ok-turn.ensures.place c.if-not-branch.false;
      followed =
          λ script left f.
          let x = c.turns.invariant.followed script left f in
          let y = flush-turn-follows p c.known.ensures script c.args.report.now c.turns.place (24 - c.turns.taken) m left c.turns.plain (omega (arith, c.turns-test.true)) x (λ e. c.in_default.not-None (c.next_turn.ensures p x.at.state x.at.stands ∙ e)) in
          judges-true p script c.args.report.now c.turn.new.place (FollowsBetween p script c.args.report.now c.turn.new.place (flushes m left) c.turn.new.plain) _ c.if-not-branch.false (c.in_ok-turn.ensures.judged script (flushes m left) (inl refl) y);
    }

pub returns-clause-judged : goal.returns-clause-judged
returns-clause-judged g c = λ script left f.
    flush-spent-follows c.args.checked.now c.known.ensures script c.args.report.now c.turns.place (24 - c.turns.taken) left c.turns.plain (omega (arith, c.turns-test.false)) (c.turns.invariant.followed script left f)

pub returns-clause-room : goal.returns-clause-room
returns-clause-room g c = leaves_more c.turns.taken 24 c.args.plain.now c.turns.plain (omega (arith, c.turns.auto.taken-end)) c.turns.invariant.room
