use Rattle.std.proofs.Common.{rules}
use Rattle.rx_report.proofs.report.Report.tree_lines.Goals as goal

pub returns-clause-written : goal.returns-clause-written
returns-clause-written c = λ all t is. let put = c.put_tree_lines-written.ensures.put c.args.self.now.options all t is in search rules
