use Rattle.std.proofs.Common.{◌∙◌, ap, List}
use Rattle.rx_queue.specs.contracts.queue.Queue.{the_view}
use Rattle.rx_queue.specs.declared.entry.Entry.{Entry}
use Rattle.rx_queue.specs.Stands.{StandsFor, work_of}
use Rattle.rx_queue.proofs.Histories.{work_of-base}
use Rattle.rx_queue.proofs.queue.Queue.work.Goals as goal

pub returns : goal.returns
returns c answers history stands =
    let before : StandsFor answers (the_view c.self.inside) history = rw c.self.view_is stands in
    c.work_in.ensures ∙ ap (λ (l : List Entry). work_of c.args.lanes c.args.cut l) (c.deref.ensures.value ∙ before.queue_is)
    ∙ work_of-base c.args.lanes c.args.cut history.entries
