use Rattle.std.proofs.Common.{sym, ◌∙◌}
use Rattle.rx_commit.proofs.Lines.{sync-none}
use Rattle.rx_commit.proofs.prepared.Prepared.write_sync.Goals as goal

pub returns-clause-written : goal.returns-clause-written
returns-clause-written c = sync-none c.args.lanes c.args.self.now.passive c.args.log.now (sym c.has.ensures ∙ c.if-has.false)
