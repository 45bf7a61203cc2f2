use Rattle.std.proofs.Common.{◌∙◌, ap}
use Rattle.std.proofs.lemmas.Result.{on_ok_weaker}
use Rattle.rx_lane.specs.Lanes.{has, lanes_where}
use Rattle.rx_lines.specs.Lines.{committed}
use Rattle.rx_writing.proofs.Behind.{goes_on-again}
use Rattle.rx_commit.proofs.Lines.{goes_on-commit, own-parts}
use Rattle.rx_commit.proofs.prepared.Prepared.write_own.Goals as goal

pub returns-in_err-add_ops-clause-goes_on : goal.returns-in_err-add_ops-clause-goes_on
returns-in_err-add_ops-clause-goes_on c =
    goes_on-again _ _ _ (goes_on-commit c.args.log.now c.commit_line.new.self c.args.number (lanes_where (has c.args.lanes))
    (record { units = c.args.units; bodies = c.args.bodies }) c.in_ok-commit_line.ensures.written) c.in_err-add_ops.ensures.goes_on

pub returns-in_err-add_caught-clause-goes_on : goal.returns-in_err-add_caught-clause-goes_on
returns-in_err-add_caught-clause-goes_on c =
    goes_on-again _ _ _ (goes_on-commit c.args.log.now c.commit_line.new.self c.args.number (lanes_where (has c.args.lanes))
    (record { units = c.args.units; bodies = c.args.bodies }) c.in_ok-commit_line.ensures.written)
    (goes_on-again _ _ _ c.in_ok-add_ops.ensures.goes_on c.in_err-add_caught.ensures.goes_on)

pub returns-clause-written : goal.returns-clause-written
returns-clause-written c = λ new.
    on_ok_weaker c.add_lines.result
    (own-parts c.args.log.now c.commit_line.new.self c.add_ops.new.log c.add_caught.new.log c.add_lines.new.log
    (committed c.args.number (lanes_where (has c.args.lanes)) (record { units = c.args.units; bodies = c.args.bodies }) new)
    c.args.self.now.ops c.deref.result.now c.args.self.now.caught c.deref-2.result.now c.args.self.now.layout _
    (c.deref.ensures.value ∙ ap (λ p. p.ops) c.self.view_is) (c.deref-2.ensures.value ∙ ap (λ p. p.caught) c.self.view_is) (ap (λ p. p.layout) c.self.view_is)
    (c.in_ok-commit_line.ensures.written new) c.in_ok-add_ops.ensures.written c.in_ok-add_caught.ensures.written)
    c.add_lines.ensures.written

pub returns-clause-goes_on : goal.returns-clause-goes_on
returns-clause-goes_on c =
    goes_on-again _ _ _ (goes_on-commit c.args.log.now c.commit_line.new.self c.args.number (lanes_where (has c.args.lanes))
    (record { units = c.args.units; bodies = c.args.bodies }) c.in_ok-commit_line.ensures.written)
    (goes_on-again _ _ _ c.in_ok-add_ops.ensures.goes_on (goes_on-again _ _ _ c.in_ok-add_caught.ensures.goes_on c.add_lines.ensures.goes_on))
