use Rattle.std.proofs.Common.{◌≡◌, ◌∙◌, ap, sym, subst, take, drop, map, List, ℤ, ℕ}
use Rattle.std.specs.List.{prefix_len}
use Rattle.std.proofs.lemmas.List.{take_rest}
use Rattle.rx_queue.specs.contracts.queue.Queue.{the_view}
use Rattle.rx_queue.specs.declared.entry.Entry.{Entry}
use Rattle.rx_queue.specs.declared.queue.Processed.{Processed}
use Rattle.rx_queue.specs.History.{noted, processed, state_from, was_included}
use Rattle.rx_queue.specs.Stands.{StandsFor, state_before}
use Rattle.rx_queue.proofs.Histories.{last-noted, notes, state_before-take, state_from-cut, state_of-noted, written}
use Rattle.rx_queue.proofs.queue.Queue.process.Goals as goal

pub returns-clause-stands : goal.returns-clause-stands
returns-clause-stands g c answers history stands =
    let before : StandsFor answers (the_view c.self.inside) history = rw c.self.view_is stands in
    let notes_it = noted c.args.lanes c.args.cut in
    let queue = written c.self.inside.entries notes_it c.note_included.new.entries (c.note_included.ensures ∙ ap (map notes_it) c.deref_mut.ensures.value) in
    subst (λ (l : List Entry). StandsFor answers (record { base = c.self.inside.base; committed = c.self.inside.committed; queue = l; room = (the_view c.self.inside).room }) (processed c.args.lanes c.args.cut history))
    (sym queue) (notes answers (the_view c.self.inside) history c.args.lanes c.args.cut before)

pub returns-clause-last : goal.returns-clause-last
returns-clause-last g c history stands above =
    let answers = g.F.Fold.answers c.args.fold.now in
    let before : StandsFor answers (the_view c.self.inside) history = rw c.self.view_is stands in
    let notes_it = noted c.args.lanes c.args.cut in
    let start = c.self.inside.base in
    let queue = written c.self.inside.entries notes_it c.note_included.new.entries (c.note_included.ensures ∙ ap (map notes_it) c.deref_mut.ensures.value) in
    let all = map notes_it c.self.inside.entries.items in
    let lead = c.leading_included-lead.result in
    let lead_is : lead ≡ prefix_len was_included all = c.leading_included-lead.ensures ∙ ap (λ (l : List Entry). prefix_len was_included l) (c.deref.ensures.value ∙ queue) in
    let front : c.fold_included-base.result ≡ state_from answers was_included start (take lead all) =
    c.fold_included-base.ensures ∙ ap (λ (l : List Entry). state_from answers was_included start (take lead l)) (c.deref-2.ensures.value ∙ queue) in
    let base : c.fold_included-base.result ≡ state_before answers was_included start all =
    front ∙ ap (λ (n : ℕ). state_from answers was_included start (take n all)) lead_is ∙ state_before-take answers was_included start all in
    let value : c.fold_included-value.result ≡ state_from answers was_included start all =
    c.fold_included-value.ensures
    ∙ ap (λ (l : List Entry). state_from answers was_included c.fold_included-base.result l)
    (take_rest c.deref-3.result.now lead ∙ ap (λ (l : List Entry). drop lead l) (c.deref-3.ensures.value ∙ queue))
    ∙ ap (λ (s : ℤ). state_from answers was_included s (drop lead all)) front ∙ state_from-cut answers was_included start lead all in
    let given : Processed = record { value = c.fold_included-value.result; base = c.fold_included-base.result } in
    last-noted answers (the_view c.self.inside) history c.args.lanes c.args.cut given before above value base

pub returns-clause-value : goal.returns-clause-value
returns-clause-value g c history stands above =
    (returns-clause-last g c history stands above).value_is ∙ state_of-noted (g.F.Fold.answers c.args.fold.now) history c.args.lanes c.args.cut
