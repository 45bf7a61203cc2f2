use Rattle.std.proofs.Common.{◌∙◌}
use Rattle.rx_queue.specs.Stands.{StandsFor}
use Rattle.rx_queue.specs.contracts.queue.Queue.{the_view}
use Rattle.rx_queue.proofs.Histories.{committed-in_order}
use Rattle.rx_queue.proofs.queue.Queue.committed.Goals as goal

pub returns-clause-in_order : goal.returns-clause-in_order
returns-clause-in_order c answers history stands all =
    let before : StandsFor answers (the_view c.self.inside) history = rw c.self.view_is stands in
    before.committed_is ∙ committed-in_order answers history all
