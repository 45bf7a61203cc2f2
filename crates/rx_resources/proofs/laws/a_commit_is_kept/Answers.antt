use Rattle.rx_resources.proofs.Counting.{commit_kept, commit_open_or_done}
use Rattle.rx_resources.proofs.laws.a_commit_is_kept.Goals as goal

pub returns-clause-kept : goal.returns-clause-kept
returns-clause-kept c lanes cut visible hidden j r k = commit_kept lanes cut visible hidden r j k

pub returns-clause-open_or_done : goal.returns-clause-open_or_done
returns-clause-open_or_done c lanes cut visible hidden j r = commit_open_or_done lanes cut visible hidden r j
