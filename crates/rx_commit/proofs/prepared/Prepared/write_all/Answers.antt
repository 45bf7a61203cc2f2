use Rattle.std.proofs.lemmas.Result.{on_ok_weaker}
use Rattle.rx_writing.proofs.Behind.{goes_on-again}
use Rattle.rx_commit.proofs.Lines.{commit-lines}
use Rattle.rx_commit.proofs.prepared.Prepared.write_all.Goals as goal

pub returns-clause-written : goal.returns-clause-written
returns-clause-written c = λ old new is.
    on_ok_weaker c.write_sync.result
    (commit-lines c.args.number c.args.lanes (record { units = c.args.units; bodies = c.args.bodies }) old new c.args.self.now
    c.args.log.now c.write_own.new.log c.write_sync.new.log is (c.in_ok-write_own.ensures.written new))
    c.write_sync.ensures.written

pub returns-clause-goes_on : goal.returns-clause-goes_on
returns-clause-goes_on c = goes_on-again _ _ _ c.in_ok-write_own.ensures.goes_on c.write_sync.ensures.goes_on
