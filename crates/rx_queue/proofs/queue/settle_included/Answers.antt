use Rattle.std.proofs.Common.{◌≡◌, ◌∙◌, ap, sym}
use Rattle.std.proofs.Math.ListN.{set}
use Rattle.std.proofs.lemmas.List.Edits.{map_over_more}
use Rattle.rx_queue.specs.declared.entry.Entry.{Entry}
use Rattle.rx_queue.specs.History.{settled}
use Rattle.rx_queue.proofs.queue.settle_included.Goals as goal

pub settling-preserved : goal.settling-preserved
settling-preserved c =
    let i = c.settling.entry-index in
    let written : c.settled.result ≡ settled c.entry-item.result = c.settled.ensures ∙ ap settled (sym c.entry-item.is) in
    ap (λ (x : Entry). set c.settling.entries i x) written
    ∙ map_over_more settled c.args.entries.now c.settling.entries i c.entry-item.result c.settling-test.true c.settling.invariant c.entry-item.is
