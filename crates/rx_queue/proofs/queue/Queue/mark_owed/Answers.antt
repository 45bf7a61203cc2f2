use Rattle.std.proofs.Common.{◌∙◌, ap, map, sym, subst, List}
use Rattle.rx_queue.specs.contracts.queue.Queue.{the_view}
use Rattle.rx_queue.specs.declared.entry.Entry.{Entry}
use Rattle.rx_queue.specs.Stands.{StandsFor}
use Rattle.rx_queue.specs.History.{marked_owed, owed_after}
use Rattle.rx_queue.proofs.Histories.{last-marks, marks, written}
use Rattle.rx_queue.proofs.queue.Queue.mark_owed.Goals as goal

pub returns-clause-stands : goal.returns-clause-stands
returns-clause-stands c answers history stands =
    let before : StandsFor answers (the_view c.self.inside) history = rw c.self.view_is stands in
    let owes = owed_after c.args.lanes c.args.cut in
    let queue = written c.self.inside.entries owes c.owe.new.entries (c.owe.ensures ∙ ap (map owes) c.deref_mut.ensures.value) in
    subst (λ (l : List Entry). StandsFor answers (record { base = c.self.inside.base; committed = c.self.inside.committed; queue = l; room = (the_view c.self.inside).room }) (marked_owed c.args.lanes c.args.cut history))
    (sym queue) (marks answers (the_view c.self.inside) history c.args.lanes c.args.cut before)

pub returns-clause-last : goal.returns-clause-last
returns-clause-last c answers history given last = last-marks answers history c.args.lanes c.args.cut given last
