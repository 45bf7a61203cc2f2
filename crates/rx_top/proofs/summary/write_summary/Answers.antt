use Rattle.std.proofs.Common.{rules}
use Rattle.rx_top.proofs.Due.{summary-lost, summary-nothing, summary-whole}
use Rattle.rx_top.proofs.summary.write_summary.Goals as goal

pub returns-in-Ok-clause-done : goal.returns-in-Ok-clause-done
returns-in-Ok-clause-done g c whole = summary-whole c.args.rounds _ _ _ _ _ c.in-Ok.ensures.ok (search rules)

pub returns-in-Ok-clause-lost : goal.returns-in-Ok-clause-lost
returns-in-Ok-clause-lost g c h = summary-lost c.args.rounds _ _ _ _ _ c.in-Ok.ensures.ok (search rules)

pub returns-in-Err-clause-short : goal.returns-in-Err-clause-short
returns-in-Err-clause-short g c _ = summary-nothing c.args.rounds _ _ _ c.in-Err.ensures.short
