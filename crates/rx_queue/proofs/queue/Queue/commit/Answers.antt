use Rattle.std.proofs.Common.{◌≡◌, ◌∙◌, ap, drop, map, List}
use Rattle.std.specs.List.{prefix_len}
use Rattle.rx_queue.specs.contracts.queue.Queue.{the_view}
use Rattle.rx_queue.specs.declared.entry.Entry.{Entry}
use Rattle.rx_queue.specs.History.{is_done, settled}
use Rattle.rx_queue.specs.Stands.{StandsFor}
use Rattle.rx_queue.proofs.Histories.{commits, last-commits, written}
use Rattle.rx_queue.proofs.queue.Queue.commit.Goals as goal

pub returns-clause-stands : goal.returns-clause-stands
returns-clause-stands c answers history stands last =
    let before : StandsFor answers (the_view c.self.inside) history = rw c.self.view_is stands in
    let settle = written c.self.inside.entries settled c.settle_included.new.entries (c.settle_included.ensures ∙ ap (map settled) c.deref_mut.ensures.value) in
    let queue : c.drop_leading_done.new.entries.items ≡ drop (prefix_len is_done (map settled c.self.inside.entries.items)) (map settled c.self.inside.entries.items) =
    c.drop_leading_done.ensures ∙ ap (λ (l : List Entry). drop (prefix_len is_done l) l) settle in
    commits answers (the_view c.self.inside) c.drop_leading_done.new.entries.items _ history c.args.processed queue before last

pub returns-clause-last : goal.returns-clause-last
returns-clause-last c answers history last = last-commits answers history c.args.processed last
