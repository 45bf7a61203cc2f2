use Rattle.std.proofs.Common.{ℕ, Option, inl, subst}
use Rattle.rx_model.specs.Committing.{ended}
use Rattle.rx_root.specs.Turning.{counts_of, HasFinished, HasYielded}
use Rattle.rx_root.proofs.TurnsTaken.{on_ok, goes_finished, goes_yielded}
use Rattle.rx_root.proofs.Broken.{any_err, gave_up_after, gave_up_units, on_err}
use Rattle.rx_root.proofs.root.Root.go_on.Goals as goal

pub finish-requires-clause-end : goal.finish-requires-clause-end
finish-requires-clause-end g c =
    let is = c.requires.goes_on in
    let ends = rw c.in-Finished.is at c.in_ok-drive.ensures.ends in
    let f = ends is.program is.state is.progress is.stands in
    record { program = is.program; state = is.state; progress = is.progress; tree = f.tree; stands = f.stands }

pub returns-in-Finished-clause-takes : goal.returns-in-Finished-clause-takes
returns-in-Finished-clause-takes g c =
    let ends = rw c.in-Finished.is at c.in_ok-drive.ensures.ends in
    on_ok c.finish.result _ _
    (λ done p s x h leads.
    let f =
    subst (λ (slice : Option ℕ). HasFinished p s x slice c.drive.new.self c.args.steps.now c.drive.new.steps) (c.slice-slice.ensures.slice p s x h) (ends p s x h) in
    goes_finished p s x c.args.budget c.drive.new.self c.finish.new.self c.args.log.now c.finish.new.log c.args.steps.now c.drive.new.steps f
    (done p s x f.tree f.stands (leads (ended s x (counts_of c.drive.new.self) f.tree) (inl f.finishes, tt)))) c.finish.ensures.done

pub returns-in-Yielded-clause-takes : goal.returns-in-Yielded-clause-takes
returns-in-Yielded-clause-takes g c =
    let ends = rw c.in-Yielded.is at c.in_ok-drive.ensures.ends in
    λ p s x h leads.
    goes_yielded p s x c.args.budget c.drive.new.self c.args.log.now c.args.steps.now c.drive.new.steps leads
    (subst (λ (slice : Option ℕ). HasYielded p s x slice c.drive.new.self c.args.steps.now c.drive.new.steps) (c.slice-slice.ensures.slice p s x h) (ends p s x h))

pub returns-in-Finished-clause-gave_up : goal.returns-in-Finished-clause-gave_up
returns-in-Finished-clause-gave_up g c =
    on_err c.finish.result _ _ (gave_up_after c.args.self.now c.drive.new.self c.finish.new.self c.drive.ensures.rest c.in_ok-drive.ensures.onward) c.finish.ensures.gave_up

pub returns-in_err-drive-clause-gave_up : goal.returns-in_err-drive-clause-gave_up
returns-in_err-drive-clause-gave_up g c = any_err c.from_residual.result _ (gave_up_units c.args.self.now c.drive.new.self c.drive.ensures.rest c.in_err-drive.ensures.given_up)
