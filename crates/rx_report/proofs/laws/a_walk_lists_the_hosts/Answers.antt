use Rattle.rx_report.proofs.Walks.{walk_of}
use Rattle.rx_report.proofs.laws.a_walk_lists_the_hosts.Goals as goal

pub returns : goal.returns
returns c = walk_of
