use Rattle.std.proofs.Common.{◌∙◌, List, sym, subst}
use Rattle.std.proofs.lemmas.Result.{on_ok_weaker}
use Rattle.std.specs.Borrow.{Bor}
use Rattle.std.specs.Option.{option_copied}
use Rattle.rx_elem.specs.Spots.{Mounted, mounted}
use Rattle.rx_hook_store.specs.Store.{kept_hooks}
use Rattle.rx_settle.specs.Found.{HasWorking, seen}
use Rattle.rx_settle.specs.Passes.{AreApart, AreKept, IsSettledOver}
use Rattle.rx_settle.proofs.Whole.{pruned_apart, pruned_kept, settled_gone, settled_keeps, whole_trees}
use Rattle.rx_settle.proofs.settling.settle_all.Goals as goal

pub settle_trees-requires-clause-apart : goal.settle_trees-requires-clause-apart
settle_trees-requires-clause-apart c =
    let can = c.requires in
    subst AreApart (sym (c.deref-2.ensures.value ∙ c.in_ok-instances.ensures))
    (pruned_apart c.args.checked.now (kept_hooks c.args.store.now) (option_copied c.args.old) c.args.new.now c.args.first c.args.lanes c.args.cut can.state can.progress can.rendered can.is
    (option_copied c.args.old) c.args.new.now (whole_trees (option_copied c.args.old) c.args.new.now))

pub settle_trees-requires-clause-kept : goal.settle_trees-requires-clause-kept
settle_trees-requires-clause-kept c =
    let can = c.requires in
    subst (AreKept c.args.first (kept_hooks c.args.store.now)) (sym (c.deref-2.ensures.value ∙ c.in_ok-instances.ensures))
    (pruned_kept c.args.checked.now (kept_hooks c.args.store.now) (option_copied c.args.old) c.args.new.now c.args.first c.args.lanes c.args.cut can.state can.progress can.rendered can.is
    (option_copied c.args.old) c.args.new.now (whole_trees (option_copied c.args.old) c.args.new.now))

pub settle_trees-requires-clause-working : goal.settle_trees-requires-clause-working
settle_trees-requires-clause-working c =
    let lanes = c.args.lanes in
    let cut = c.args.cut in
    let kept = kept_hooks c.args.store.now in
    subst (λ (ms : List Mounted). HasWorking lanes cut kept ms (seen c.deref-3.result.now)) (c.deref.ensures.value ∙ sym c.deref-2.ensures.value)
    (subst (λ (rs : List (Bor Mounted)). HasWorking lanes cut kept c.deref.result.now (seen rs)) (sym c.deref-3.ensures.value) c.in_ok-working.ensures.found)

pub returns-clause-settled : goal.returns-clause-settled
returns-clause-settled c =
    let are = c.deref-2.ensures.value ∙ c.in_ok-instances.ensures in
    on_ok_weaker c.settle_trees.result
    (λ over s g x is.
    settled_keeps c.args.checked.now (kept_hooks c.args.store.now) (option_copied c.args.old) c.args.new.now c.args.first c.args.lanes c.args.cut s g x is
    (option_copied c.args.old) c.args.new.now (whole_trees (option_copied c.args.old) c.args.new.now) (kept_hooks c.settle_trees.new.store)
    (subst (IsSettledOver c.args.checked.now c.args.lanes c.args.cut c.args.first (kept_hooks c.args.store.now) (kept_hooks c.settle_trees.new.store) (mounted (option_copied c.args.old))) are over)
    (λ n hooks has kept work. has))
    c.settle_trees.ensures.settled

pub returns-clause-gone : goal.returns-clause-gone
returns-clause-gone c =
    let are = c.deref-2.ensures.value ∙ c.in_ok-instances.ensures in
    on_ok_weaker c.settle_trees.result
    (λ over.
    settled_gone c.args.checked.now (kept_hooks c.args.store.now) (kept_hooks c.settle_trees.new.store) (option_copied c.args.old) c.args.new.now
    (option_copied c.args.old) c.args.new.now c.args.first c.args.lanes c.args.cut (whole_trees (option_copied c.args.old) c.args.new.now)
    (subst (IsSettledOver c.args.checked.now c.args.lanes c.args.cut c.args.first (kept_hooks c.args.store.now) (kept_hooks c.settle_trees.new.store) (mounted (option_copied c.args.old))) are over))
    c.settle_trees.ensures.settled
