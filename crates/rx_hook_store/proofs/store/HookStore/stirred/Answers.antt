use Rattle.std.proofs.Common.{◌≡◌, ◌∙◌, ◌||◌, Some, ap, sym, subst}
use Rattle.rx_set.specs.Sets.{holds}
use Rattle.rx_hook_store.specs.Store.{kept_hooks}
use Rattle.rx_hook_store.specs.Busy.{is_listed}
use Rattle.rx_hook_store.proofs.Listing.{unlisted_calm}
use Rattle.rx_hook_store.proofs.store.HookStore.stirred.Goals as goal

pub returns-clause-values : goal.returns-clause-values
returns-clause-values c s n initials not_in below =
    unlisted_calm (is_listed c.self.inside.busy n) n (kept_hooks c.args.self.now)
    (λ hooks at. c.self.invariant n hooks (subst (λ k. kept_hooks k n ≡ Some hooks) (sym c.self.view_is) at))
    (ap (λ b. b || holds c.self.inside.busy.numbers n) c.if-self.false ∙ not_in)
    s initials below

pub returns-clause-rest : goal.returns-clause-rest
returns-clause-rest c n answers hooks histories lanes cut not_in at stand below =
    c.self.invariant n hooks (subst (λ k. kept_hooks k n ≡ Some hooks) (sym c.self.view_is) at)
    (ap (λ b. b || holds c.self.inside.busy.numbers n) c.if-self.false ∙ not_in)
    answers histories stand lanes cut below
