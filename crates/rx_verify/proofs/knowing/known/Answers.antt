use Rattle.rx_verify.proofs.Reaching.{runnable_bounded}
use Rattle.rx_verify.proofs.knowing.known.Goals as goal

pub returns : goal.returns
returns c =
    let p = c.args.checked.now in
    record {
      bounded = runnable_bounded p c.program.ensures.runnable;
      progresses = c.progresses.ensures p;
      reach = c.reaches.ensures.runs p;
      free = c.turns_but_for_bodies.ensures.free p;
      taken = c.turns_but_for_bodies.ensures.taken p;
      choice = c.same_but_for_bodies.ensures.choice;
      end = c.same_but_for_bodies.ensures.end;
      alike = c.same_but_for_bodies.ensures.steps p;
      bodies = c.any_bodies_fit.ensures.anywhere p;
      tells = c.finishes_tell.ensures.told;
      last = c.finishes_tell.ensures.last;
      decides = c.no_other_choice_fits.ensures p;
    }
