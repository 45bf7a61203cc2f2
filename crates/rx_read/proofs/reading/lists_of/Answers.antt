use Rattle.std.proofs.Common.{◌≡◌, true, false, sym, ap, ◌∙◌}
use Rattle.rx_fiber.specs.OldLists.{falls_in, begins_fallback}
use Rattle.rx_read.specs.Lists.{list_of}
use Rattle.rx_read.proofs.Links.{links, by_child, by_sibling, with_sibling, same_rest}
use Rattle.rx_read.proofs.Listing.{shown_children, shown_fallback, alone_children, alone_fallback, kept_children, kept_fallback}
use Rattle.rx_read.proofs.reading.lists_of.Goals as goal

pub returns-then-not-falls-clause-children_in : goal.returns-then-not-falls-clause-children_in
returns-then-not-falls-clause-children_in c =
    let t = c.args.tree.now in
    let l = by_child t c.facts.ensures.fits c.facts.ensures.linked c.args.id c.first_child-first.result c.requires c.first_child-first.ensures.current c.first_child-first.ensures.made in
    l.2.child_in

pub returns-then-not-falls-clause-children : goal.returns-then-not-falls-clause-children
returns-then-not-falls-clause-children c =
    let t = c.args.tree.now in
    let l = with_sibling t c.facts.ensures.fits c.facts.ensures.linked c.args.id c.value.result.now c.first_child-first.result c.requires c.value.ensures.current c.value.ensures.made c.first_child-first.ensures.current c.first_child-first.ensures.made in
    let h : falls_in c.value.result.now.stage ≡ false = cc in
    shown_children t c.args.id c.value.result.now _ _ l.1 h

pub returns-then-not-falls-clause-fallback : goal.returns-then-not-falls-clause-fallback
returns-then-not-falls-clause-fallback c =
    let t = c.args.tree.now in
    let l = with_sibling t c.facts.ensures.fits c.facts.ensures.linked c.args.id c.value.result.now c.first_child-first.result c.requires c.value.ensures.current c.value.ensures.made c.first_child-first.ensures.current c.first_child-first.ensures.made in
    let h : falls_in c.value.result.now.stage ≡ false = cc in
    shown_fallback t c.args.id c.value.result.now _ _ l.1 h

pub begins_fallback-requires : goal.begins_fallback-requires
begins_fallback-requires c =
    let t = c.args.tree.now in
    let l = by_sibling t c.facts.ensures.fits c.facts.ensures.linked c.args.id c.next_sibling.result c.requires c.next_sibling.ensures.current c.next_sibling.ensures.made in
    l.2.sibling_in

pub returns-then-not-begins_fallback-clause-fallback_in : goal.returns-then-not-begins_fallback-clause-fallback_in
returns-then-not-begins_fallback-clause-fallback_in c =
    let t = c.args.tree.now in
    let l = by_child t c.facts.ensures.fits c.facts.ensures.linked c.args.id c.first_child-first.result c.requires c.first_child-first.ensures.current c.first_child-first.ensures.made in
    l.2.child_in

pub returns-then-not-begins_fallback-clause-children : goal.returns-then-not-begins_fallback-clause-children
returns-then-not-begins_fallback-clause-children c =
    let t = c.args.tree.now in
    let l = links t c.facts.ensures.fits c.facts.ensures.linked c.args.id c.value.result.now c.first_child-first.result c.next_sibling.result c.requires c.value.ensures.current c.value.ensures.made c.first_child-first.ensures.current c.first_child-first.ensures.made c.next_sibling.ensures.current c.next_sibling.ensures.made in
    let h : falls_in c.value.result.now.stage ≡ true = cc in
    let b : begins_fallback (list_of t c.next_sibling.result) ≡ false = cc in
    alone_children t c.args.id c.value.result.now _ _ l h b

pub returns-then-not-begins_fallback-clause-fallback : goal.returns-then-not-begins_fallback-clause-fallback
returns-then-not-begins_fallback-clause-fallback c =
    let t = c.args.tree.now in
    let l = links t c.facts.ensures.fits c.facts.ensures.linked c.args.id c.value.result.now c.first_child-first.result c.next_sibling.result c.requires c.value.ensures.current c.value.ensures.made c.first_child-first.ensures.current c.first_child-first.ensures.made c.next_sibling.ensures.current c.next_sibling.ensures.made in
    let h : falls_in c.value.result.now.stage ≡ true = cc in
    let b : begins_fallback (list_of t c.next_sibling.result) ≡ false = cc in
    alone_fallback t c.args.id c.value.result.now _ _ l h b

pub child_of_link-fallback-requires : goal.child_of_link-fallback-requires
child_of_link-fallback-requires c =
    let t = c.args.tree.now in
    let l = by_sibling t c.facts.ensures.fits c.facts.ensures.linked c.args.id c.next_sibling-2.result c.requires c.next_sibling-2.ensures.current c.next_sibling-2.ensures.made in
    l.2.sibling_in

pub returns-clause-children_in : goal.returns-clause-children_in
returns-clause-children_in c =
    let t = c.args.tree.now in
    let l = by_child t c.facts.ensures.fits c.facts.ensures.linked c.args.id c.first_child-first.result c.requires c.first_child-first.ensures.current c.first_child-first.ensures.made in
    l.2.child_in

pub returns-clause-children : goal.returns-clause-children
returns-clause-children c =
    let t = c.args.tree.now in
    let l = links t c.facts.ensures.fits c.facts.ensures.linked c.args.id c.value.result.now c.first_child-first.result c.next_sibling.result c.requires c.value.ensures.current c.value.ensures.made c.first_child-first.ensures.current c.first_child-first.ensures.made c.next_sibling.ensures.current c.next_sibling.ensures.made in
    let h : falls_in c.value.result.now.stage ≡ true = cc in
    let b : begins_fallback (list_of t c.next_sibling.result) ≡ true = cc in
    kept_children t c.args.id c.value.result.now _ _ l h b

pub returns-clause-fallback : goal.returns-clause-fallback
returns-clause-fallback c =
    let t = c.args.tree.now in
    let l = links t c.facts.ensures.fits c.facts.ensures.linked c.args.id c.value.result.now c.first_child-first.result c.next_sibling.result c.requires c.value.ensures.current c.value.ensures.made c.first_child-first.ensures.current c.first_child-first.ensures.made c.next_sibling.ensures.current c.next_sibling.ensures.made in
    let l2 = links t c.facts.ensures.fits c.facts.ensures.linked c.args.id c.value.result.now c.first_child-first.result c.next_sibling-2.result c.requires c.value.ensures.current c.value.ensures.made c.first_child-first.ensures.current c.first_child-first.ensures.made c.next_sibling-2.ensures.current c.next_sibling-2.ensures.made in
    let h : falls_in c.value.result.now.stage ≡ true = cc in
    let b : begins_fallback (list_of t c.next_sibling.result) ≡ true = cc in
    let same = same_rest t c.args.id _ _ _ _ _ _ l l2 in
    let q : begins_fallback (list_of t c.next_sibling-2.result) ≡ true = ap begins_fallback (sym same) ∙ b in
    c.child_of_link-fallback.ensures.list ∙ kept_fallback t c.args.id c.value.result.now _ _ l2 h q
