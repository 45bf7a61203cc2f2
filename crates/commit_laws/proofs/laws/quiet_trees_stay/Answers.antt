use Rattle.commit_laws.proofs.QuietTree.{quiet_tree, root_stays}
use Rattle.commit_laws.proofs.laws.quiet_trees_stay.Goals as goal

pub returns : goal.returns
returns c = record { tree = quiet_tree; root = root_stays }
