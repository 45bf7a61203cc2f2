use Rattle.std.proofs.Common.{rules}
use Rattle.rx_report.proofs.report.Report.commit_line.Goals as goal

pub returns-clause-written : goal.returns-clause-written
returns-clause-written c = λ tree. let put = c.put_commit_line-written.ensures.put tree in search rules
