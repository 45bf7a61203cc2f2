use Rattle.std.proofs.Common.{◌≡◌, ◌∙◌, ap, sym}
use Rattle.std.proofs.Math.ListN.{set}
use Rattle.std.proofs.lemmas.List.Edits.{map_over_more}
use Rattle.rx_queue.specs.declared.entry.Entry.{Entry}
use Rattle.rx_queue.specs.History.{owed_after}
use Rattle.rx_queue.proofs.queue.owe.Goals as goal

pub owing-preserved : goal.owing-preserved
owing-preserved c =
    let i = c.owing.entry-index in
    let written : c.owed_after.result ≡ owed_after c.args.lanes c.args.cut c.entry-item.result = c.owed_after.ensures ∙ ap (owed_after c.args.lanes c.args.cut) (sym c.entry-item.is) in
    ap (λ (x : Entry). set c.owing.entries i x) written
    ∙ map_over_more (owed_after c.args.lanes c.args.cut) c.args.entries.now c.owing.entries i c.entry-item.result c.owing-test.true c.owing.invariant c.entry-item.is
