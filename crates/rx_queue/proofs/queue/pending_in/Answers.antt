use Rattle.std.proofs.Common.{sym, ap, ◌∙◌, take}
use Rattle.rx_lane.specs.Lanes.{Lanes, union}
use Rattle.rx_queue.specs.History.{pending_of}
use Rattle.rx_queue.proofs.Histories.{pending-closed, pending-open}
use Rattle.rx_queue.proofs.queue.pending_in.Goals.{else-is_open, then-is_open}
use Rattle.rx_queue.proofs.queue.pending_in.Goals as goal

pub pending-preserved : goal.pending-preserved
pending-preserved c =
    let xs = c.args.entries.now in
    let i = c.pending.entry-index in
    let x = c.entry-item.result in
    elim c.if-is_open.branch [
      | then-is_open w ↦ w.lanes-is ∙ w.union-lanes.ensures
          ∙ ap (λ (a : Lanes). union a w.one.result) c.pending.invariant ∙ ap (λ (b : Lanes). union (pending_of (take i xs)) b) w.one.ensures
          ∙ pending-open xs i x c.pending-test.true c.entry-item.is (sym c.is_open.ensures ∙ w.if-is_open.true)
      | else-is_open w ↦ w.lanes-is ∙ c.pending.invariant ∙ pending-closed xs i x c.pending-test.true c.entry-item.is (sym c.is_open.ensures ∙ w.if-is_open.false)
    ]
