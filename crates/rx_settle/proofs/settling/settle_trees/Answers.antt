use Rattle.std.proofs.Common.{◌∙◌, ◌&&◌, not, ℕ, List, None, IsSome, cond, nat_eq, sym, ap, subst, refl}
use Rattle.std.specs.List.{list_any}
use Rattle.std.specs.Option.{option_copied}
use Rattle.rx_elem.specs.Spots.{mounted}
use Rattle.rx_hook_store.specs.Store.{kept_hooks}
use Rattle.rx_hook_store.proofs.Staying.{all_stay}
use Rattle.rx_settle.specs.Found.{seen}
use Rattle.rx_settle.specs.Passes.{has_instance}
use Rattle.rx_settle.proofs.Again.{goes_on_before}
use Rattle.rx_settle.proofs.Found.{kept_of, settled_over}
use Rattle.rx_settle.proofs.Staying.{has_numbers}
use Rattle.rx_settle.proofs.Whole.{all_go_on, on_err}
use Rattle.rx_settle.proofs.settling.settle_trees.Goals as goal

pub returns-in_err-reserve-clause-err : goal.returns-in_err-reserve-clause-err
returns-in_err-reserve-clause-err c =
    on_err c.from_residual-in_err-reserve.result
    (λ s done keeps. all_stay s s refl refl c.args.checked.now (kept_hooks c.args.store.now) (kept_hooks c.reserve.new.self) refl c.reserve.ensures.same keeps)

pub render_shown-requires-clause-kept : goal.render_shown-requires-clause-kept
render_shown-requires-clause-kept c =
    kept_of c.args.first (kept_hooks c.reserve.new.self) c.args.instances.now (seen c.args.working.now) c.requires.working.within
    (λ k m at below. subst IsSome (sym (c.reserve.ensures.same m.number)) (c.requires.kept k m at below))

pub returns-in_err-render_shown-clause-err : goal.returns-in_err-render_shown-clause-err
returns-in_err-render_shown-clause-err c =
    on_err c.from_residual-in_err-render_shown.result
    (λ s done keeps. all_go_on c.args.checked.now c.args.lanes c.args.cut (kept_hooks c.args.store.now) (kept_hooks c.render_shown.new.store) s
    (goes_on_before c.args.checked.now c.args.lanes c.args.cut c.args.first (kept_hooks c.args.store.now) (kept_hooks c.reserve.new.self) (kept_hooks c.render_shown.new.store)
    c.reserve.ensures.same c.render_shown.ensures.keeps) done keeps)

pub settle_each-requires-clause-kept : goal.settle_each-requires-clause-kept
settle_each-requires-clause-kept c =
    kept_of c.args.first (kept_hooks c.render_shown.new.store) c.args.instances.now (seen c.args.working.now) c.requires.working.within
    (λ k m at below. c.render_shown.ensures.keeps.there m.number (subst IsSome (sym (c.reserve.ensures.same m.number)) (c.requires.kept k m at below)))

pub returns-clause-settled : goal.returns-clause-settled
returns-clause-settled c =
    let old_are = c.deref.ensures.value ∙ c.in_ok-before.ensures in
    let before = mounted (option_copied c.args.old) in
    let inserted = kept_hooks c.insert_all.new.store in
    settled_over c.args.checked.now c.args.lanes c.args.cut c.args.first (kept_hooks c.args.store.now) (kept_hooks c.reserve.new.self) (kept_hooks c.render_shown.new.store)
    (kept_hooks c.settle_each.new.store) inserted (kept_hooks c.remove_all.new.store) before c.args.instances.now (seen c.args.working.now) c.in_ok-made.made.items
    c.requires.apart c.requires.working c.in_ok-made.ensures c.reserve.ensures.same c.render_shown.ensures.keeps c.in_ok-render_shown.ensures.rendered c.render_shown.ensures.others
    c.settle_each.ensures.settled c.settle_each.ensures.others c.insert_all.ensures
    (λ n.
    c.remove_all.ensures n
    ∙ ap (λ b. cond b None (inserted n))
    (ap (λ (ks : List ℕ). list_any (nat_eq n) ks) c.deref-2.ensures.value
    ∙ (c.in_ok-gone.ensures n ∙ ap (λ b. b && not (has_instance c.args.instances.now n)) (ap (λ (ks : List ℕ). list_any (nat_eq n) ks) old_are ∙ sym (has_numbers before n)))))
