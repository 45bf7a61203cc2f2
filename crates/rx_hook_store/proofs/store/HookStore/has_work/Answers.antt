use Rattle.std.proofs.Common.{◌≡◌, Some, sym, ap, subst, ◌∙◌, rules, arith}
use Rattle.rx_hooks.specs.Hooks.{work_of_hooks}
use Rattle.rx_hook_store.specs.Store.{kept_hooks}
use Rattle.rx_hook_store.proofs.Working.{is_some_work, sees_committed, work_is}
use Rattle.rx_hook_store.proofs.store.HookStore.has_work.Goals as goal

pub returns-clause-work : goal.returns-clause-work
returns-clause-work c answers hooks histories kept_is stand =
    let some : c.ne.result ≡ is_some_work c.work.result = search rules in
    let work : c.work.result ≡ work_of_hooks c.args.lanes c.args.cut histories = search rules in
    some ∙ (ap is_some_work work ∙ work_is c.args.lanes c.args.cut histories)

pub returns-clause-calm : goal.returns-clause-calm
returns-clause-calm c = sees_committed c.args.lanes c.args.cut c.args.instance (kept_hooks c.args.self.now) _ (returns-clause-work c)

-- in the hooks of an instance that is not listed no render has work
pub returns-then-not-lists-clause-work : goal.returns-then-not-lists-clause-work
returns-then-not-lists-clause-work c answers hooks histories kept_is stand =
    sym (c.self.invariant c.args.instance hooks (subst (λ k. kept_hooks k c.args.instance ≡ Some hooks) (sym c.self.view_is) kept_is) (sym c.lists.ensures ∙ c.if-not-lists.true)
    answers histories stand c.args.lanes c.args.cut (omega arith))

pub returns-then-not-lists-clause-calm : goal.returns-then-not-lists-clause-calm
returns-then-not-lists-clause-calm c = sees_committed c.args.lanes c.args.cut c.args.instance (kept_hooks c.args.self.now) _ (returns-then-not-lists-clause-work c)
