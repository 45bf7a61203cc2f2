use Rattle.std.proofs.Common.{inl, inr}
use Rattle.rx_links.specs.Drafts.{IsMadeList}
use Rattle.rx_links.proofs.Computed.{opened, sound, shown, made-live}
use Rattle.rx_links.proofs.Edits.{has-makes}
use Rattle.rx_links.proofs.Writes.{keeps-shows, grown-shows, fresh_current, fresh_draft, unused-alone, olds-held, olds-live, olds-differ, on-err}
use Rattle.rx_links.proofs.tree.FiberTree.child.Goals as goal

pub invariant_of-self : goal.invariant_of-self
invariant_of-self g c = sound _ _ (keeps-shows _ _ _ (opened _ _ c.self.view_is c.self.invariant) c.reserve.ensures.kept c.reserve.ensures.live)

pub returns-in_err-reserve-clause-err : goal.returns-in_err-reserve-clause-err
returns-in_err-reserve-clause-err g c =
    on-err _ _ (shown _ _ (keeps-shows _ _ _ (opened _ _ c.self.view_is c.self.invariant) c.reserve.ensures.kept c.reserve.ensures.live))

pub make_child-id-requires-clause-parent_live : goal.make_child-id-requires-clause-parent_live
make_child-id-requires-clause-parent_live g c =
    let h = keeps-shows _ _ c.reserve.new.self (opened _ c.args.self.now c.self.view_is c.self.invariant) c.reserve.ensures.kept c.reserve.ensures.live in
    made-live _ _ _ h.stands c.args.parent (has-makes IsMadeList _ _ c.requires.open)

pub make_child-id-requires-clause-old_live : goal.make_child-id-requires-clause-old_live
make_child-id-requires-clause-old_live g c =
    let h = keeps-shows _ _ c.reserve.new.self (opened _ c.args.self.now c.self.view_is c.self.invariant) c.reserve.ensures.kept c.reserve.ensures.live in
    olds-live _ _ _ _ h (has-makes IsMadeList _ _ c.requires.open) c.requires.old_child

pub make_child-id-requires-clause-old_alone : goal.make_child-id-requires-clause-old_alone
make_child-id-requires-clause-old_alone g c =
    let h = keeps-shows _ _ c.reserve.new.self (opened _ c.args.self.now c.self.view_is c.self.invariant) c.reserve.ensures.kept c.reserve.ensures.live in
    unused-alone _ _ _ h (olds-held _ _ _ _ h (has-makes IsMadeList _ _ c.requires.open) c.requires.old_child) c.requires.unused

pub make_child-id-requires-clause-differ : goal.make_child-id-requires-clause-differ
make_child-id-requires-clause-differ g c =
    let h = keeps-shows _ _ c.reserve.new.self (opened _ c.args.self.now c.self.view_is c.self.invariant) c.reserve.ensures.kept c.reserve.ensures.live in
    olds-differ _ _ _ _ h (has-makes IsMadeList _ _ c.requires.open) c.requires.old_child

pub invariant_of-self-2 : goal.invariant_of-self-2
invariant_of-self-2 g c =
    let h = keeps-shows _ _ c.reserve.new.self (opened _ c.args.self.now c.self.view_is c.self.invariant) c.reserve.ensures.kept c.reserve.ensures.live in
    sound _ _ (grown-shows _ _ _ _ _ _ _ h c.requires.open c.requires.old_child c.requires.unused c.make_child-id.ensures c.in_ok-reserve.ensures.limit)

pub returns-clause-ok : goal.returns-clause-ok
returns-clause-ok g c =
    let h = keeps-shows _ _ c.reserve.new.self (opened _ c.args.self.now c.self.view_is c.self.invariant) c.reserve.ensures.kept c.reserve.ensures.live in
    shown _ _ (grown-shows _ _ _ _ _ _ _ h c.requires.open c.requires.old_child c.requires.unused c.make_child-id.ensures c.in_ok-reserve.ensures.limit)

pub returns-clause-fresh : goal.returns-clause-fresh
returns-clause-fresh g c m =
    let h = keeps-shows _ _ c.reserve.new.self (opened _ c.args.self.now c.self.view_is c.self.invariant) c.reserve.ensures.kept c.reserve.ensures.live in
    elim m [
      | inl q ↦ fresh_current _ _ _ _ _ _ _ h c.requires.open c.requires.old_child c.requires.unused c.make_child-id.ensures q
      | inr q ↦ fresh_draft _ _ _ _ _ _ _ h c.requires.open c.requires.old_child c.requires.unused c.make_child-id.ensures q
    ]
