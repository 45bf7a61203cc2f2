use Rattle.std.proofs.Common.{◌∙◌, Option, ap, refl, sym}
use Rattle.std.proofs.lemmas.Result.{on_ok_weaker}
use Rattle.rx_base.specs.Awaits.{Awaits}
use Rattle.rx_lane.specs.Lanes.{Lanes}
use Rattle.rx_meaning.specs.Outcome.{commit, defer, outcome}
use Rattle.rx_plain.specs.Doing.{outcome_as}
use Rattle.rx_plain.specs.Plained.{Plained}
use Rattle.rx_plain.proofs.Committing.{ended_as, knows_since, room_deferred}
use Rattle.rx_plain.proofs.plain.Plain.end_render.Goals as goal

pub defer-requires-clause-knows : goal.defer-requires-clause-knows
defer-requires-clause-knows c =
    let e = c.requires.at_end in
    record {
      state = e.state;
      progress = e.progress;
      knows = knows_since c.args.checked.now e.state e.progress c.args.self.now c.args.self.now c.args.going.now e.stands refl;
    }

pub returns-in-None-clause-done : goal.returns-in-None-clause-done
returns-in-None-clause-done c =
    on_ok_weaker c.commit.result
    (λ done s g x h gives is reached.
    ended_as c.args.checked.now s g (record { units = c.args.units; bodies = c.args.bodies }) x (commit x) c.commit.new.self c.args.log.now c.commit.new.log
    (ap (λ (o : Option Awaits). outcome_as x o) (sym c.in-None.is) ∙ c.in_ok-deferral.ensures s x h.tree is ∙ ap (λ (ls : Lanes). outcome ls s.tree x) h.progress.lanes)
    (done s g x h gives is) reached)
    c.commit.ensures.done

pub returns-in-Some-clause-done : goal.returns-in-Some-clause-done
returns-in-Some-clause-done c =
    on_ok_weaker c.defer.result
    (λ done s g x h gives is reached.
    ended_as c.args.checked.now s g (record { units = c.args.units; bodies = c.args.bodies }) x (defer c.in-Some.waits) c.defer.new.self c.args.log.now c.defer.new.log
    (ap (λ (o : Option Awaits). outcome_as x o) (sym c.in-Some.is) ∙ c.in_ok-deferral.ensures s x h.tree is ∙ ap (λ (ls : Lanes). outcome ls s.tree x) h.progress.lanes)
    (done s g h) reached)
    c.defer.ensures.done

pub returns-in-Some-clause-leaves : goal.returns-in-Some-clause-leaves
returns-in-Some-clause-leaves c =
    on_ok_weaker c.defer.result
    (λ is. room_deferred c.args.self.now c.defer.new.self (ap (λ (w : Plained). w.numbers) is) (ap (λ (w : Plained). w.commits) is) (ap (λ (w : Plained). w.updates) is) (ap (λ (w : Plained). w.resolutions) is))
    c.defer.ensures.rest
