use Rattle.std.proofs.Common.{sym, ap, ◌∙◌, subst, Some}
use Rattle.rx_elem.specs.Numbers.{numbered}
use Rattle.rx_links.specs.Drafts.{grafted}
use Rattle.rx_fiber.specs.Reading.{IsTreeOf}
use Rattle.rx_read.specs.Numbering.{AreHeld}
use Rattle.rx_read.specs.NumbersView.{numbers_seen}
use Rattle.rx_read.proofs.Growing.{all_held}
use Rattle.rx_read.proofs.Numbered.{tree_stays}
use Rattle.rx_read.proofs.Relisted.{root_numbers, root_draft}
use Rattle.rx_read.proofs.numbering.number_made.Goals as goal

pub number_list-requires-clause-room : goal.number_list-requires-clause-room
number_list-requires-clause-room c =
    let t = c.args.tree.now in
    let n = numbers_seen c.args.next in
    subst AreHeld (sym (root_numbers t c.facts.ensures.fits n c.in_progress-root.result c.in_progress-root.ensures)) (all_held n t.draft c.requires.instances c.requires.hosts)

pub returns-clause-tree : goal.returns-clause-tree
returns-clause-tree c x tree all =
    let t = c.args.tree.now in
    let n = numbers_seen c.args.next in
    let new = ap (λ t. t.draft) c.number_list.ensures.trees ∙ root_draft t c.facts.ensures.fits n c.in_progress-root.result c.in_progress-root.ensures in
    subst (λ w. IsTreeOf (Some (numbered n x).1) (grafted w)) (sym new) (tree_stays t c.facts.ensures.fits c.facts.ensures.linked n x tree all).1

pub returns-clause-numbers : goal.returns-clause-numbers
returns-clause-numbers c x tree all =
    let t = c.args.tree.now in
    let n = numbers_seen c.args.next in
    c.number_list.ensures.next
    ∙ root_numbers t c.facts.ensures.fits n c.in_progress-root.result c.in_progress-root.ensures
    ∙ (tree_stays t c.facts.ensures.fits c.facts.ensures.linked n x tree all).0
