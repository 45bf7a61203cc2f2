use Rattle.std.proofs.Common.{◌≢◌, ◌≤◌, ◌-◌, None, sym, ◌∙◌, arith}
use Rattle.rx_sched.specs.declared.choice.Choice.TheVariants as choice
use Rattle.rx_model.specs.Turns.{choice_of}
use Rattle.rx_root.specs.Paying.{Pays}
use Rattle.rx_root.proofs.Broken.{any_err, flush_breaks, flush_breaks_later, on_err}
use Rattle.rx_kept.proofs.TurnReached.{turn_event}
use Rattle.rx_root.proofs.TurnsTaken.{on_ok, flush_none}
use Rattle.rx_root.proofs.FlushSteps.{some_render, flushes_on, flush_takes, one_room, room_left, leaves_more, same_leaves}
use Rattle.rx_root.proofs.root.Root.+finish_renders.Goals as goal

pub returns-in-None-clause-takes : goal.returns-in-None-clause-takes
returns-in-None-clause-takes g t c = λ p s h none. flush_none p s c.args.limit c.args.self.now c.args.log.now c.args.steps.now h (sym (c.in-None.ensures p s h))

pub turn-requires : goal.turn-requires
turn-requires g t c =
    let f = c.requires.flushes in
    let some : choice_of f.state ≢ choice.None = λ e. c.in_default.not-None (c.next_turn.ensures f.program f.state f.stands ∙ e) in
    record {
      stands = record { program = f.program; state = f.state; stands = f.stands; between = f.between };
      room = one_room c.args.limit c.args.self.now (some_render c.args.limit f.program f.state f.ends some) c.requires.room;
      positive = tt;
    }

pub finish_renders-requires : goal.finish_renders-requires
finish_renders-requires g t c κs within =
    let f = c.requires.flushes in
    let some : choice_of f.state ≢ choice.None = λ e. c.in_default.not-None (c.next_turn.ensures f.program f.state f.stands ∙ e) in
    let few : 1 ≤ c.args.limit = some_render c.args.limit f.program f.state f.ends some in
    let taken = c.in_ok-turn.ensures.takes f.program f.state f.stands f.between in (
      omega (arith, few, c.decreases),
      (
        within,
        (
          flushes_on c.args.limit c.args.self.now c.turn.new.self c.args.log.now c.turn.new.log c.args.steps.now c.turn.new.steps f some taken,
          room_left c.args.limit c.args.self.now c.turn.new.self few c.in_ok-turn.ensures.leaves c.requires.room,
        ),
      ),
    )

pub returns-in_err-turn-clause-breaks : goal.returns-in_err-turn-clause-breaks
returns-in_err-turn-clause-breaks g t c =
    any_err c.from_residual.result _
    (λ p s h none.
    let f = c.requires.flushes in
    let some : choice_of f.state ≢ choice.None = λ e. c.in_default.not-None (c.next_turn.ensures f.program f.state f.stands ∙ e) in
    flush_breaks p s c.args.limit c.turn.new.self c.args.log.now c.turn.new.log c.args.steps.now c.turn.new.steps (some_render c.args.limit f.program f.state f.ends some) (c.in_err-turn.ensures.breaks p s h none))

pub returns-in_err-turn-clause-leaves : goal.returns-in_err-turn-clause-leaves
returns-in_err-turn-clause-leaves g t c =
    let f = c.requires.flushes in
    let some : choice_of f.state ≢ choice.None = λ e. c.in_default.not-None (c.next_turn.ensures f.program f.state f.stands ∙ e) in
    leaves_more c.args.limit c.args.self.now c.turn.new.self c.turn.new.self (some_render c.args.limit f.program f.state f.ends some) c.turn.ensures.leaves (same_leaves (c.args.limit - 1) c.turn.new.self)

pub returns-in-None-clause-leaves : goal.returns-in-None-clause-leaves
returns-in-None-clause-leaves g t c = same_leaves c.args.limit c.args.self.now

pub returns : goal.returns
returns g t c =
    let f = c.requires.flushes in
    let some : choice_of f.state ≢ choice.None = λ e. c.in_default.not-None (c.next_turn.ensures f.program f.state f.stands ∙ e) in
    let few : 1 ≤ c.args.limit = some_render c.args.limit f.program f.state f.ends some in
    record {
      takes = on_ok c.finish_renders.result _ _
          (λ rest p s h none.
          let turn = c.in_ok-turn.ensures.takes p s h none in
          let busy : choice_of s ≢ choice.None = λ e. c.in_default.not-None (c.next_turn.ensures p s h ∙ e) in
          flush_takes c.args.limit p s c.turn.new.self c.finish_renders.new.self c.args.log.now c.turn.new.log c.finish_renders.new.log c.args.steps.now c.turn.new.steps c.finish_renders.new.steps few busy
          turn (rest p turn.stretch.after turn.done.stands (turn_event Pays p s None turn.stretch none turn.asked))) c.finish_renders.ensures.takes;
      breaks = on_err c.finish_renders.result _ _
          (λ rest p s h none.
          let turn = c.in_ok-turn.ensures.takes p s h none in
          let busy : choice_of s ≢ choice.None = λ e. c.in_default.not-None (c.next_turn.ensures p s h ∙ e) in
          flush_breaks_later c.args.limit p s c.turn.new.self c.finish_renders.new.self c.args.log.now c.turn.new.log c.finish_renders.new.log c.args.steps.now c.turn.new.steps c.finish_renders.new.steps few
          busy turn (rest p turn.stretch.after turn.done.stands (turn_event Pays p s None turn.stretch none turn.asked))) c.finish_renders.ensures.breaks;
      leaves = leaves_more c.args.limit c.args.self.now c.turn.new.self c.finish_renders.new.self few c.in_ok-turn.ensures.leaves c.finish_renders.ensures.leaves;
      rises = omega (arith, c.turn.ensures.rises, c.finish_renders.ensures.rises);
    }
