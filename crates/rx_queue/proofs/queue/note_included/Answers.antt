use Rattle.std.proofs.Common.{◌≡◌, ◌∙◌, ap, sym}
use Rattle.std.proofs.Math.ListN.{set}
use Rattle.std.proofs.lemmas.List.Edits.{map_over_more}
use Rattle.rx_queue.specs.declared.entry.Entry.{Entry}
use Rattle.rx_queue.specs.History.{noted}
use Rattle.rx_queue.proofs.queue.note_included.Goals as goal

pub noting-preserved : goal.noting-preserved
noting-preserved c =
    let i = c.noting.entry-index in
    let written : c.noted.result ≡ noted c.args.lanes c.args.cut c.entry-item.result = c.noted.ensures ∙ ap (noted c.args.lanes c.args.cut) (sym c.entry-item.is) in
    ap (λ (x : Entry). set c.noting.entries i x) written
    ∙ map_over_more (noted c.args.lanes c.args.cut) c.args.entries.now c.noting.entries i c.entry-item.result c.noting-test.true c.noting.invariant c.entry-item.is
