use Rattle.std.proofs.Common.{inl, inr}
use Rattle.rx_links.proofs.Computed.{opened, sound, shown, made-live}
use Rattle.rx_links.proofs.Writes.{keeps-shows, unused-alone, on-err}
use Rattle.rx_links.proofs.Inserting.{inserted-shows, behind_current, behind_draft, behinds-held, behinds-live, behinds-differ}
use Rattle.rx_links.proofs.tree.FiberTree.child_behind.Goals as goal

pub invariant_of-self : goal.invariant_of-self
invariant_of-self g c = sound _ _ (keeps-shows _ _ _ (opened _ _ c.self.view_is c.self.invariant) c.reserve.ensures.kept c.reserve.ensures.live)

pub returns-in_err-reserve-clause-err : goal.returns-in_err-reserve-clause-err
returns-in_err-reserve-clause-err g c =
    on-err _ _ (shown _ _ (keeps-shows _ _ _ (opened _ _ c.self.view_is c.self.invariant) c.reserve.ensures.kept c.reserve.ensures.live))

pub make_behind-id-requires-clause-sibling_live : goal.make_behind-id-requires-clause-sibling_live
make_behind-id-requires-clause-sibling_live g c =
    let h = keeps-shows _ _ c.reserve.new.self (opened _ c.args.self.now c.self.view_is c.self.invariant) c.reserve.ensures.kept c.reserve.ensures.live in
    made-live _ _ _ h.stands c.args.sibling c.requires.made

pub make_behind-id-requires-clause-old_live : goal.make_behind-id-requires-clause-old_live
make_behind-id-requires-clause-old_live g c =
    let h = keeps-shows _ _ c.reserve.new.self (opened _ c.args.self.now c.self.view_is c.self.invariant) c.reserve.ensures.kept c.reserve.ensures.live in
    behinds-live _ _ _ _ h c.requires.made c.requires.old_sibling

pub make_behind-id-requires-clause-old_alone : goal.make_behind-id-requires-clause-old_alone
make_behind-id-requires-clause-old_alone g c =
    let h = keeps-shows _ _ c.reserve.new.self (opened _ c.args.self.now c.self.view_is c.self.invariant) c.reserve.ensures.kept c.reserve.ensures.live in
    unused-alone _ _ _ h (behinds-held _ _ _ _ h c.requires.made c.requires.old_sibling) c.requires.unused

pub make_behind-id-requires-clause-differ : goal.make_behind-id-requires-clause-differ
make_behind-id-requires-clause-differ g c =
    let h = keeps-shows _ _ c.reserve.new.self (opened _ c.args.self.now c.self.view_is c.self.invariant) c.reserve.ensures.kept c.reserve.ensures.live in
    behinds-differ _ _ _ _ h c.requires.made c.requires.old_sibling

pub invariant_of-self-2 : goal.invariant_of-self-2
invariant_of-self-2 g c =
    let h = keeps-shows _ _ c.reserve.new.self (opened _ c.args.self.now c.self.view_is c.self.invariant) c.reserve.ensures.kept c.reserve.ensures.live in
    sound _ _ (inserted-shows _ _ _ _ _ _ _ h c.requires.made c.requires.old_sibling c.requires.unused c.make_behind-id.ensures c.in_ok-reserve.ensures.limit)

pub returns-clause-ok : goal.returns-clause-ok
returns-clause-ok g c =
    let h = keeps-shows _ _ c.reserve.new.self (opened _ c.args.self.now c.self.view_is c.self.invariant) c.reserve.ensures.kept c.reserve.ensures.live in
    shown _ _ (inserted-shows _ _ _ _ _ _ _ h c.requires.made c.requires.old_sibling c.requires.unused c.make_behind-id.ensures c.in_ok-reserve.ensures.limit)

pub returns-clause-fresh : goal.returns-clause-fresh
returns-clause-fresh g c m =
    let h = keeps-shows _ _ c.reserve.new.self (opened _ c.args.self.now c.self.view_is c.self.invariant) c.reserve.ensures.kept c.reserve.ensures.live in
    elim m [
      | inl q ↦ behind_current _ _ _ _ _ _ _ h c.requires.made c.requires.old_sibling c.requires.unused c.make_behind-id.ensures q
      | inr q ↦ behind_draft _ _ _ _ _ _ _ h c.requires.made c.requires.old_sibling c.requires.unused c.make_behind-id.ensures q
    ]
