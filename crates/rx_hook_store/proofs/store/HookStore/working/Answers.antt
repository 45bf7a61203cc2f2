use Rattle.std.proofs.Common.{◌≡◌, ◌∙◌, ◌||◌, true, Some, ap, sym, subst, arith}
use Rattle.rx_set.specs.Sets.{holds}
use Rattle.rx_hook_store.specs.Store.{kept_hooks}
use Rattle.rx_hook_store.specs.Busy.{is_listed}
use Rattle.rx_hook_store.proofs.Listing.{is_busy}
use Rattle.rx_hook_store.proofs.store.HookStore.working.Goals as goal
use Rattle.rx_hook_store.proofs.store.HookStore.working.Goals.{then-self+in_ok-put_all, else-self+in_ok-put_listed}

pub returns-clause-all : goal.returns-clause-all
returns-clause-all c n hooks at work =
    let here = subst (λ k. kept_hooks k n ≡ Some hooks) (sym c.self.view_is) at in
    let listed : is_listed c.self.inside.busy n ≡ true = is_busy (is_listed c.self.inside.busy n) c.args.lanes c.args.cut hooks (omega arith) work (c.self.invariant n hooks here) in
    elim c.if-self.branch [
      | then-self+in_ok-put_all w ↦ subst (λ s. holds s n ≡ true) (sym w.numbers-is) (w.in_ok-put_all.ensures.all n hooks here work)
      | else-self+in_ok-put_listed w ↦
          subst (λ s. holds s n ≡ true) (sym w.numbers-is)
          (w.in_ok-put_listed.ensures.all n hooks (ap (λ l. holds l n) w.members.ensures ∙ sym (ap (λ b. b || holds c.self.inside.busy.numbers n) w.if-self.false) ∙ listed) here work)
    ]
