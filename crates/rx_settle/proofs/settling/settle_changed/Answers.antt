use Rattle.std.proofs.Common.{◌∙◌, List, ap, sym, subst}
use Rattle.std.specs.Borrow.{Bor}
use Rattle.std.specs.Option.{option_copied}
use Rattle.rx_elem.specs.Spots.{Mounted, mounted}
use Rattle.rx_hook_store.specs.Store.{kept_hooks}
use Rattle.rx_settle.specs.Found.{HasWorkElsewhere, HasWorking, seen}
use Rattle.rx_settle.specs.Passes.{AreApart, AreKept, IsSettledOver, has_instance}
use Rattle.rx_settle.proofs.Whole.{pruned_apart, pruned_kept, settled_gone, settled_keeps}
use Rattle.rx_settle.proofs.settling.settle_changed.Goals as goal

pub settle_trees-requires-clause-apart : goal.settle_trees-requires-clause-apart
settle_trees-requires-clause-apart c =
    let can = c.requires.can in
    subst AreApart (sym (c.deref-2.ensures.value ∙ c.in_ok-instances.ensures))
    (pruned_apart c.args.checked.now (kept_hooks c.args.store.now) can.0 can.1 c.args.first c.args.lanes c.args.cut can.2.0.state can.2.0.progress can.2.0.rendered can.2.0.is
    (option_copied c.args.pruned_old) c.args.pruned_new.now can.2.1)

pub settle_trees-requires-clause-kept : goal.settle_trees-requires-clause-kept
settle_trees-requires-clause-kept c =
    let can = c.requires.can in
    subst (AreKept c.args.first (kept_hooks c.args.store.now)) (sym (c.deref-2.ensures.value ∙ c.in_ok-instances.ensures))
    (pruned_kept c.args.checked.now (kept_hooks c.args.store.now) can.0 can.1 c.args.first c.args.lanes c.args.cut can.2.0.state can.2.0.progress can.2.0.rendered can.2.0.is
    (option_copied c.args.pruned_old) c.args.pruned_new.now can.2.1)

pub settle_trees-requires-clause-working : goal.settle_trees-requires-clause-working
settle_trees-requires-clause-working c =
    let lanes = c.args.lanes in
    let cut = c.args.cut in
    let kept = kept_hooks c.args.store.now in
    subst (λ (ms : List Mounted). HasWorking lanes cut kept ms (seen c.deref-3.result.now)) (c.deref.ensures.value ∙ sym c.deref-2.ensures.value)
    (subst (λ (rs : List (Bor Mounted)). HasWorking lanes cut kept c.deref.result.now (seen rs)) (sym c.deref-3.ensures.value) c.in_ok-working.ensures.found)

pub returns-clause-settled : goal.returns-clause-settled
returns-clause-settled c done old new s g x pruned is =
    let are = c.deref-2.ensures.value ∙ c.in_ok-instances.ensures in
    settled_keeps c.args.checked.now (kept_hooks c.args.store.now) old new c.args.first c.args.lanes c.args.cut s g x is (option_copied c.args.pruned_old) c.args.pruned_new.now pruned
    (kept_hooks c.settle_trees.new.store)
    (subst (IsSettledOver c.args.checked.now c.args.lanes c.args.cut c.args.first (kept_hooks c.args.store.now) (kept_hooks c.settle_trees.new.store) (mounted (option_copied c.args.pruned_old))) are
    c.in_ok-settle_trees.ensures.settled)
    (λ n hooks has kept work.
    sym (ap (λ ms. has_instance ms n) (c.deref.ensures.value ∙ c.in_ok-instances.ensures)) ∙ c.in_ok-working.ensures.all c.if-not-are_all.false n hooks kept work)

pub returns-clause-gone : goal.returns-clause-gone
returns-clause-gone c done old new k m pruned can =
    let are = c.deref-2.ensures.value ∙ c.in_ok-instances.ensures in
    settled_gone c.args.checked.now (kept_hooks c.args.store.now) (kept_hooks c.settle_trees.new.store) old new (option_copied c.args.pruned_old) c.args.pruned_new.now
    c.args.first c.args.lanes c.args.cut pruned
    (subst (IsSettledOver c.args.checked.now c.args.lanes c.args.cut c.args.first (kept_hooks c.args.store.now) (kept_hooks c.settle_trees.new.store) (mounted (option_copied c.args.pruned_old))) are
    c.in_ok-settle_trees.ensures.settled)
    k m

pub returns-then-not-are_all-clause-others : goal.returns-then-not-are_all-clause-others
returns-then-not-are_all-clause-others c = λ none.
    subst (HasWorkElsewhere c.args.lanes c.args.cut (kept_hooks c.args.store.now)) (c.deref.ensures.value ∙ c.in_ok-instances.ensures) (c.in_ok-working.ensures.others c.if-not-are_all.true)
