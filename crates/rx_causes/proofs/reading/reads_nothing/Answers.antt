use Rattle.std.proofs.Common.{refl, sym, ap, ◌∙◌}
use Rattle.rx_lists.specs.Shapes.{first}
use Rattle.rx_links.specs.Drafts.{kids_of}
use Rattle.rx_links.specs.Readers.{rest_of}
use Rattle.rx_fiber.proofs.OldReads.{some_held}
use Rattle.rx_causes.proofs.Causes.{shown_again}
use Rattle.rx_causes.proofs.Free.{unread_here}
use Rattle.rx_causes.proofs.reading.reads_nothing.Goals as goal

pub returns-in-Some-clause-holds : goal.returns-in-Some-clause-holds
returns-in-Some-clause-holds c none cs x was =
    let trees = c.args.tree.now.current in
    let i = c.in-Some.id in
    let held = some_held trees c.args.old i c.requires.held c.in-Some.is in
    let v = c.value.result.now in
    unread_here trees c.facts.ensures.linked c.requires.gathered i held v (c.value.ensures.current held) (first (kids_of trees i)) refl (first (rest_of trees i)) refl c.args.old c.in-Some.is c.requires.shown
    (ap (λ s. s.reads) (sym c.subtree.ensures) ∙ shown_again c.subtree.result.reads none) cs x was
