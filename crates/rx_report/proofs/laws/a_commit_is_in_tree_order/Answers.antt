use Rattle.rx_report.proofs.Committed.{commit_order}
use Rattle.rx_report.proofs.laws.a_commit_is_in_tree_order.Goals as goal

pub returns : goal.returns
returns c = commit_order
