use Rattle.std.proofs.Common.{◌∙◌, ap, List}
use Rattle.rx_queue.specs.contracts.queue.Queue.{the_view}
use Rattle.rx_queue.specs.declared.entry.Entry.{Entry}
use Rattle.rx_queue.specs.History.{pending_of}
use Rattle.rx_queue.specs.Stands.{StandsFor}
use Rattle.rx_queue.proofs.Histories.{pending_of-base}
use Rattle.rx_queue.proofs.queue.Queue.pending_lanes.Goals as goal

pub returns : goal.returns
returns c answers history stands =
    let before : StandsFor answers (the_view c.self.inside) history = rw c.self.view_is stands in
    c.pending_in.ensures ∙ ap (λ (l : List Entry). pending_of l) (c.deref.ensures.value ∙ before.queue_is) ∙ pending_of-base history.entries
