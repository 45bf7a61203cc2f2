use Rattle.std.proofs.Common.{sym, ap, ◌∙◌}
use Rattle.rx_lists.proofs.Frames.{some-at}
use Rattle.rx_fiber.specs.OldLists.{first_kids}
use Rattle.rx_read.specs.Lists.{list_of}
use Rattle.rx_read.proofs.Links.{by_child}
use Rattle.rx_read.proofs.Listing.{first_kids_are}
use Rattle.rx_read.proofs.reading.child_of_link.Goals as goal

pub returns-clause-inside : goal.returns-clause-inside
returns-clause-inside c =
    let l = by_child c.args.tree.now c.facts.ensures.fits c.facts.ensures.linked c.in_ok-link.field-0 c.first_child.result (some-at _ _ _ c.requires c.in_ok-link.was) c.first_child.ensures.current c.first_child.ensures.made in
    l.2.child_in

pub returns-clause-list : goal.returns-clause-list
returns-clause-list c =
    let t = c.args.tree.now in
    let l = by_child t c.facts.ensures.fits c.facts.ensures.linked c.in_ok-link.field-0 c.first_child.result (some-at _ _ _ c.requires c.in_ok-link.was) c.first_child.ensures.current c.first_child.ensures.made in
    first_kids_are t c.in_ok-link.field-0 l.0 c.first_child.result l.1 l.2 ∙ ap (λ o. first_kids (list_of t o)) (sym c.in_ok-link.was)
