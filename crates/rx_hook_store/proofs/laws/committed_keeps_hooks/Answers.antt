use Rattle.rx_hook_store.proofs.Committed.{committed_keeps}
use Rattle.rx_hook_store.proofs.laws.committed_keeps_hooks.Goals as goal

pub returns : goal.returns
returns c = committed_keeps
