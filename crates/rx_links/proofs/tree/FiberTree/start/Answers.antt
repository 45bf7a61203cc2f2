use Rattle.rx_links.proofs.Computed.{opened, sound, shown, held-live}
use Rattle.rx_links.proofs.Writes.{keeps-shows, root-shows, root-alone, on-err}
use Rattle.rx_links.proofs.tree.FiberTree.start.Goals as goal

pub invariant_of-self : goal.invariant_of-self
invariant_of-self g c = sound _ _ (keeps-shows _ _ _ (opened _ _ c.self.view_is c.self.invariant) c.reserve.ensures.kept c.reserve.ensures.live)

pub returns-in_err-reserve-clause-err : goal.returns-in_err-reserve-clause-err
returns-in_err-reserve-clause-err g c =
    on-err _ _ (shown _ _ (keeps-shows _ _ _ (opened _ _ c.self.view_is c.self.invariant) c.reserve.ensures.kept c.reserve.ensures.live))

pub make_root-id-requires-clause-old_alone : goal.make_root-id-requires-clause-old_alone
make_root-id-requires-clause-old_alone g c =
    root-alone (record { nodes = c.reserve.new.self; current = c.self.inside.current; draft = c.self.inside.draft }) c.args.self.now c.requires (keeps-shows _ _ _ (opened _ _ c.self.view_is c.self.invariant) c.reserve.ensures.kept c.reserve.ensures.live)

pub invariant_of-self-2 : goal.invariant_of-self-2
invariant_of-self-2 g c =
    sound _ _
    (root-shows (record { nodes = c.reserve.new.self; current = c.self.inside.current; draft = c.self.inside.draft }) c.args.self.now _ c.make_root-id.result c.args.value c.requires
    (keeps-shows _ _ _ (opened _ _ c.self.view_is c.self.invariant) c.reserve.ensures.kept c.reserve.ensures.live) c.make_root-id.ensures c.in_ok-reserve.ensures.limit)

pub returns-clause-ok : goal.returns-clause-ok
returns-clause-ok g c =
    shown _ _
    (root-shows (record { nodes = c.reserve.new.self; current = c.self.inside.current; draft = c.self.inside.draft }) c.args.self.now _ c.make_root-id.result c.args.value c.requires
    (keeps-shows _ _ _ (opened _ _ c.self.view_is c.self.invariant) c.reserve.ensures.kept c.reserve.ensures.live) c.make_root-id.ensures c.in_ok-reserve.ensures.limit)

pub returns-clause-fresh : goal.returns-clause-fresh
returns-clause-fresh g c m =
    let h = keeps-shows _ _ c.reserve.new.self (opened _ c.args.self.now c.self.view_is c.self.invariant) c.reserve.ensures.kept c.reserve.ensures.live in
    let s = held-live _ _ _ h.stands _ m in let q = rw (c.make_root-id.ensures.vacant) at s in cc
