use Rattle.std.proofs.Common.{Option, sym, ap, ◌∙◌}
use Rattle.rx_base.specs.Awaits.{Awaits}
use Rattle.rx_meaning.specs.Outcome.{commit, defer}
use Rattle.rx_commit.specs.Shown.{outcome_as}
use Rattle.rx_root.specs.Turning.{counts_of}
use Rattle.rx_root.proofs.TurnsTaken.{on_ok, ended_as}
use Rattle.rx_root.proofs.Broken.{any_err, gave_up_as, gave_up_same, on_err}
use Rattle.rx_root.proofs.root.Root.finish.Goals as goal

pub returns-in-None-clause-done : goal.returns-in-None-clause-done
returns-in-None-clause-done c =
    on_ok c.commit.result _ _
    (λ a p s g tree h reached.
    ended_as p s g (counts_of c.args.self.now) tree (commit tree) c.commit.new.self c.args.log.now c.commit.new.log
    (ap (λ (o : Option Awaits). outcome_as tree o) (sym c.in-None.is) ∙ c.in_ok-deferral.ensures p s g tree h) (a p s g tree h) reached) c.commit.ensures.done

pub returns-in-Some-clause-done : goal.returns-in-Some-clause-done
returns-in-Some-clause-done c =
    on_ok c.defer.result _ _
    (λ a p s g tree h reached.
    ended_as p s g (counts_of c.args.self.now) tree (defer c.in-Some.waits) c.defer.new.self c.args.log.now c.defer.new.log
    (ap (λ (o : Option Awaits). outcome_as tree o) (sym c.in-Some.is) ∙ c.in_ok-deferral.ensures p s g tree h) (a p s g tree h) reached) c.defer.ensures.done

pub returns-in-Some-clause-gave_up : goal.returns-in-Some-clause-gave_up
returns-in-Some-clause-gave_up c = on_err c.defer.result _ _ (gave_up_as c.args.self.now c.defer.new.self) c.defer.ensures.same

pub returns-in_err-deferral-clause-gave_up : goal.returns-in_err-deferral-clause-gave_up
returns-in_err-deferral-clause-gave_up c = any_err c.from_residual.result _ (gave_up_same c.args.self.now)
