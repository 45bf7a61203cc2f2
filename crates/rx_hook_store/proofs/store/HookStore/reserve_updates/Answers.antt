use Rattle.std.proofs.Common.{rules}
use Rattle.rx_hook_store.specs.Store.{kept_hooks}
use Rattle.rx_hook_store.proofs.Reserving.{all_reserved, gives_reserved, rendered_reserved}
use Rattle.rx_hook_store.proofs.store.HookStore.reserve_updates.Goals as goal

pub returns-clause-same : goal.returns-clause-same
returns-clause-same c = search rules

pub returns-clause-still : goal.returns-clause-still
returns-clause-still c = gives_reserved c.args.instance (kept_hooks c.args.self.now) _ (returns-clause-same c)

pub returns-clause-states : goal.returns-clause-states
returns-clause-states c = all_reserved c.args.instance (kept_hooks c.args.self.now) _ (returns-clause-same c)

pub returns-clause-rendered : goal.returns-clause-rendered
returns-clause-rendered c = rendered_reserved c.args.instance (kept_hooks c.args.self.now) _ (returns-clause-same c)
