use Rattle.std.proofs.Common.{ℕ, Some, false, ◌≡◌, ◌∙◌, ap}
use Rattle.rx_set.specs.Sets.{holds}
use Rattle.std.specs.Option.{option_copied}
use Rattle.rx_elem.specs.Spots.{mounted}
use Rattle.rx_hook_store.specs.Store.{kept_hooks}
use Rattle.rx_settle.specs.Found.{seen}
use Rattle.rx_settle.proofs.Found.{all_in_list, has_working, kept_of}
use Rattle.rx_settle.proofs.Staying.{taken_of_whole}
use Rattle.rx_settle.proofs.Whole.{pruned_apart, pruned_kept, pruned_stay, settled_gone, settled_keeps}
use Rattle.rx_settle.proofs.settling.settle_hooks.Goals as goal

pub settle_working-requires-clause-kept : goal.settle_working-requires-clause-kept
settle_working-requires-clause-kept c =
    let can = c.requires.can in
    let ms = mounted (Some c.args.pruned_new.now) in
    let asked = holds c.in_ok-numbers.numbers in
    let left = holds c.take_known.new.numbers in
    let ws = seen c.in_ok-working.working.items in
    let vs = seen c.deref-then-is_empty.result.now in
    let empty : (n : ℕ) → left n ≡ false = λ n. ap (λ l. holds l n) (c.is_empty.ensures.0 c.if-is_empty.true) in
    let taken = taken_of_whole asked left ms c.deref.result.now ws vs (c.deref.ensures.value ∙ c.in_ok-instances.ensures) (ap seen c.deref-then-is_empty.ensures.value) c.in_ok-working.ensures empty in
    kept_of c.args.first (kept_hooks c.args.store.now) ms vs taken.within
    (pruned_kept c.args.checked.now (kept_hooks c.args.store.now) can.0 can.1 c.args.first c.args.lanes c.args.cut can.2.0.state can.2.0.progress can.2.0.rendered can.2.0.is
    (option_copied c.args.pruned_old) c.args.pruned_new.now can.2.1)

pub returns-then-is_empty-clause-settled : goal.returns-then-is_empty-clause-settled
returns-then-is_empty-clause-settled c done old new s g x pruned is =
    let kept = kept_hooks c.args.store.now in
    let last = kept_hooks c.settle_working.new.store in
    let ms = mounted (Some c.args.pruned_new.now) in
    let asked = holds c.in_ok-numbers.numbers in
    let left = holds c.take_known.new.numbers in
    let ws = seen c.in_ok-working.working.items in
    let vs = seen c.deref-then-is_empty.result.now in
    let empty : (n : ℕ) → left n ≡ false = λ n. ap (λ l. holds l n) (c.is_empty.ensures.0 c.if-is_empty.true) in
    let taken = taken_of_whole asked left ms c.deref.result.now ws vs (c.deref.ensures.value ∙ c.in_ok-instances.ensures) (ap seen c.deref-then-is_empty.ensures.value) c.in_ok-working.ensures empty in
    settled_keeps c.args.checked.now kept old new c.args.first c.args.lanes c.args.cut s g x is (option_copied c.args.pruned_old) c.args.pruned_new.now pruned last
    (c.in_ok-settle_working.ensures.settled (mounted (option_copied c.args.pruned_old)) ms
    (pruned_apart c.args.checked.now kept old new c.args.first c.args.lanes c.args.cut s g x is (option_copied c.args.pruned_old) c.args.pruned_new.now pruned)
    (has_working c.args.lanes c.args.cut kept asked left ms vs c.in_ok-numbers.ensures.all taken)
    (pruned_stay c.args.checked.now kept old new c.args.first c.args.lanes c.args.cut s g x is (option_copied c.args.pruned_old) c.args.pruned_new.now pruned
    (c.have_same_instances.ensures.same c.if-have_same_instances.true)))
    (λ n hooks has is_kept work. all_in_list c.args.lanes c.args.cut kept asked left ms vs c.in_ok-numbers.ensures.all taken empty n hooks is_kept work)

pub returns-then-is_empty-clause-gone : goal.returns-then-is_empty-clause-gone
returns-then-is_empty-clause-gone c done old new k m pruned can =
    let kept = kept_hooks c.args.store.now in
    let last = kept_hooks c.settle_working.new.store in
    let ms = mounted (Some c.args.pruned_new.now) in
    let asked = holds c.in_ok-numbers.numbers in
    let left = holds c.take_known.new.numbers in
    let ws = seen c.in_ok-working.working.items in
    let vs = seen c.deref-then-is_empty.result.now in
    let empty : (n : ℕ) → left n ≡ false = λ n. ap (λ l. holds l n) (c.is_empty.ensures.0 c.if-is_empty.true) in
    let taken = taken_of_whole asked left ms c.deref.result.now ws vs (c.deref.ensures.value ∙ c.in_ok-instances.ensures) (ap seen c.deref-then-is_empty.ensures.value) c.in_ok-working.ensures empty in
    settled_gone c.args.checked.now kept last old new (option_copied c.args.pruned_old) c.args.pruned_new.now c.args.first c.args.lanes c.args.cut pruned
    (c.in_ok-settle_working.ensures.settled (mounted (option_copied c.args.pruned_old)) ms
    (pruned_apart c.args.checked.now kept old new c.args.first c.args.lanes c.args.cut can.state can.progress can.rendered can.is (option_copied c.args.pruned_old) c.args.pruned_new.now pruned)
    (has_working c.args.lanes c.args.cut kept asked left ms vs c.in_ok-numbers.ensures.all taken)
    (pruned_stay c.args.checked.now kept old new c.args.first c.args.lanes c.args.cut can.state can.progress can.rendered can.is (option_copied c.args.pruned_old) c.args.pruned_new.now pruned
    (c.have_same_instances.ensures.same c.if-have_same_instances.true)))
    k m
