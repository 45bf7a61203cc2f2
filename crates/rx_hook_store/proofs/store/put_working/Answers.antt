use Rattle.std.proofs.Common.{◌≡◌, ◌∙◌, ℕ, List, None, Some, true, nat_eq, ap, sym, subst, rules}
use Rattle.std.specs.Map.{lookup}
use Rattle.std.specs.Option.{option_copied}
use Rattle.rx_hooks.specs.declared.hook.Hook.{Hook}
use Rattle.rx_hooks.specs.Hooks.{HooksStandFor}
use Rattle.rx_hook_store.specs.Gives.{has_work_in}
use Rattle.rx_hook_store.proofs.Listing.{none_there, not_both_ways, put_only, same_there}
use Rattle.rx_hook_store.proofs.Working.{is_some_work, work_is}
use Rattle.rx_hook_store.proofs.store.put_working.Goals as goal
use Rattle.rx_hook_store.proofs.store.put_working.Goals.{in_default-via-in-None-1, in_default-via-in-Some+else-ne}

pub returns-in_default-clause-here : goal.returns-in_default-clause-here
returns-in_default-clause-here c kept at work =
    elim c.in_default.branch [
      | in_default-via-in-None-1 w ↦
          (
          let none : c.get.result ≡ None = search rules in
          absurd (none_there _ kept (sym c.get.ensures.value ∙ ap option_copied none) at)
          )
      | in_default-via-in-Some+else-ne w ↦
          (
          let same = same_there _ kept w.in-Some.kept.now at (sym c.get.ensures.value ∙ ap option_copied w.in-Some.is) in
          let some : w.ne.result ≡ is_some_work w.work.result = search rules in
          let says = w.work.ensures work.answers work.histories (subst (λ (l : List Hook). HooksStandFor work.answers l work.histories) same work.stand) in
          absurd (not_both_ways _ work.has (sym (ap is_some_work says ∙ work_is c.args.lanes c.args.cut work.histories) ∙ sym some ∙ w.if-ne.false))
          )
    ]

pub returns-in_ok-add-clause-only : goal.returns-in_ok-add-clause-only
returns-in_ok-add-clause-only c before n answers hooks histories these at stand =
    put_only c.args.instance n _ _ (has_work_in c.args.lanes c.args.cut histories ≡ true) (c.in_ok-add.ensures.holds n) these
    (λ same_n.
    let here = subst (λ (m : ℕ). lookup (nat_eq m) c.args.hooks.now.entries ≡ Some hooks) (sym same_n) at in
    let same = same_there _ hooks c.in-Some.kept.now here (sym c.get.ensures.value ∙ ap option_copied c.in-Some.is) in
    let some : c.ne.result ≡ is_some_work c.work.result = search rules in
    let says = c.work.ensures answers histories (subst (λ (l : List Hook). HooksStandFor answers l histories) same stand) in
    sym (ap is_some_work says ∙ work_is c.args.lanes c.args.cut histories) ∙ (sym some ∙ c.if-ne.true))
    (λ was. before n answers hooks histories was at stand)
