use Rattle.rx_hook_store.proofs.Stores.{each-keeps}
use Rattle.rx_hook_store.proofs.Staying.{hook_is, there_is}
use Rattle.rx_hook_store.proofs.laws.hooks_are_there.Goals as goal

pub returns : goal.returns
returns c = record { mounted = each-keeps; instance = there_is; hook = hook_is }
