use Rattle.std.proofs.Common.{rules}
use Rattle.rx_hook_store.specs.Store.{kept_hooks}
use Rattle.rx_hook_store.proofs.Stores.{finds-rendered, stays-rendered, still-gives, still-keeps}
use Rattle.rx_hook_store.proofs.store.HookStore.render_values.Goals as goal

pub returns-clause-ok : goal.returns-clause-ok
returns-clause-ok g c = search rules

pub returns-clause-err : goal.returns-clause-err
returns-clause-err g c = search rules

pub returns-clause-still : goal.returns-clause-still
returns-clause-still g c =
    still-gives c.render_values-values.result (g.F.Fold.answers c.args.fold.now) c.args.lanes c.args.cut c.args.instance (kept_hooks c.args.self.now) _
    (returns-clause-ok g c) (returns-clause-err g c)

pub returns-clause-states : goal.returns-clause-states
returns-clause-states g c =
    still-keeps c.render_values-values.result (g.F.Fold.answers c.args.fold.now) c.args.lanes c.args.cut c.args.instance (kept_hooks c.args.self.now) _
    (returns-clause-ok g c) (returns-clause-err g c)

pub returns-clause-rendered : goal.returns-clause-rendered
returns-clause-rendered g c =
    finds-rendered c.render_values-values.result (g.F.Fold.answers c.args.fold.now) c.args.lanes c.args.cut c.args.instance (kept_hooks c.args.self.now) _
    (returns-clause-ok g c) (returns-clause-err g c)

pub returns-clause-stays : goal.returns-clause-stays
returns-clause-stays g c =
    stays-rendered c.render_values-values.result (g.F.Fold.answers c.args.fold.now) c.args.lanes c.args.cut c.args.instance (kept_hooks c.args.self.now) _
    (returns-clause-ok g c) (returns-clause-err g c)
