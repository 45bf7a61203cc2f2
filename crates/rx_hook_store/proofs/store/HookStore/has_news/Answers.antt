use Rattle.std.proofs.Common.{◌≡◌, Some, sym, ap, subst, ◌∙◌, rules, arith}
use Rattle.rx_hooks.specs.Hooks.{is_new_work, work_of_hooks}
use Rattle.rx_hook_store.specs.Store.{kept_hooks}
use Rattle.rx_hook_store.proofs.Working.{news_are, no_news, sees_without}
use Rattle.rx_hook_store.proofs.store.HookStore.has_news.Goals as goal

pub returns-clause-news : goal.returns-clause-news
returns-clause-news c answers hooks histories kept_is stand =
    let new : c.eq.result ≡ is_new_work c.work.result = search rules in
    let work : c.work.result ≡ work_of_hooks c.args.lanes c.args.cut histories = search rules in
    new ∙ (ap is_new_work work ∙ news_are c.args.lanes c.args.cut histories)

pub returns-clause-same : goal.returns-clause-same
returns-clause-same c = sees_without c.args.lanes c.args.cut c.args.instance (kept_hooks c.args.self.now) _ (returns-clause-news c)

-- in the hooks of an instance that is not listed no render has work, and so none has news
pub returns-then-not-lists-clause-news : goal.returns-then-not-lists-clause-news
returns-then-not-lists-clause-news c answers hooks histories kept_is stand =
    sym (no_news c.args.lanes c.args.cut histories
    (c.self.invariant c.args.instance hooks (subst (λ k. kept_hooks k c.args.instance ≡ Some hooks) (sym c.self.view_is) kept_is) (sym c.lists.ensures ∙ c.if-not-lists.true)
    answers histories stand c.args.lanes c.args.cut (omega arith)))

pub returns-then-not-lists-clause-same : goal.returns-then-not-lists-clause-same
returns-then-not-lists-clause-same c = sees_without c.args.lanes c.args.cut c.args.instance (kept_hooks c.args.self.now) _ (returns-then-not-lists-clause-news c)
