use Rattle.std.proofs.Common.{rules}
use Rattle.rx_hook_store.specs.Store.{kept_hooks}
use Rattle.rx_hook_store.proofs.Sending.{tells_linked, then_keeps, then_rendered}
use Rattle.rx_hook_store.proofs.store.HookStore.dispatch.Goals as goal

pub returns-clause-ok : goal.returns-clause-ok
returns-clause-ok c = search rules

pub returns-clause-linked : goal.returns-clause-linked
returns-clause-linked c = search rules

pub returns-clause-states : goal.returns-clause-states
returns-clause-states c = then_keeps c.send-linked.result c.args.word c.args.update c.args.pending c.args.instance c.args.place (kept_hooks c.args.self.now) _ (returns-clause-ok c)

pub returns-clause-rendered : goal.returns-clause-rendered
returns-clause-rendered c = then_rendered c.send-linked.result c.args.word c.args.update c.args.pending c.args.instance c.args.place (kept_hooks c.args.self.now) _ (returns-clause-ok c)

pub returns-clause-links : goal.returns-clause-links
returns-clause-links c = tells_linked c.send-linked.result c.args.word c.args.update c.args.pending c.args.instance c.args.place (kept_hooks c.args.self.now) c.requires (returns-clause-linked c)
