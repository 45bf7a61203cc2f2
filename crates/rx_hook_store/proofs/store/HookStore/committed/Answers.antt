use Rattle.std.proofs.Common.{rules}
use Rattle.rx_hook_store.specs.Store.{kept_hooks}
use Rattle.rx_hook_store.proofs.Sending.{tells_committed}
use Rattle.rx_hook_store.proofs.store.HookStore.committed.Goals as goal

pub returns-clause-value : goal.returns-clause-value
returns-clause-value c = search rules

pub returns-clause-states : goal.returns-clause-states
returns-clause-states c = tells_committed _ c.args.instance c.args.place (kept_hooks c.args.self.now) c.requires (returns-clause-value c)
