use Rattle.std.proofs.Common.{◌∙◌, ◌++◌, ◌∷◌, [], List, ap}
use Rattle.rx_queue.specs.contracts.queue.Queue.{the_view}
use Rattle.rx_queue.specs.declared.entry.Entry.{Entry}
use Rattle.rx_queue.specs.History.{new_entry}
use Rattle.rx_queue.proofs.Histories.{last-pushes, pushes}
use Rattle.rx_queue.proofs.queue.Queue.push.Goals as goal

pub returns-in_err-reserve-clause-last : goal.returns-in_err-reserve-clause-last
returns-in_err-reserve-clause-last c answers history given last = last-pushes answers history c.args.update given last

pub returns-clause-ok : goal.returns-clause-ok
returns-clause-ok c answers history stands =
    pushes answers (the_view c.self.inside) c.push_reserved.new.self.items _ history c.args.update
    (c.push_reserved.ensures.items ∙ ap (λ (l : List Entry). l ++ new_entry c.args.update ∷ []) c.reserve.ensures.items) (rw c.self.view_is stands)

pub returns-clause-last : goal.returns-clause-last
returns-clause-last c answers history given last = last-pushes answers history c.args.update given last
