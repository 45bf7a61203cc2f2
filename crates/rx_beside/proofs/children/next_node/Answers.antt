use Rattle.std.proofs.Common.{◌<◌, Some, is_some, sym, ap, ◌∙◌, subst, arith}
use Rattle.rx_lists.specs.Shapes.{size}
use Rattle.rx_lists.proofs.Frames.{some-at}
use Rattle.rx_links.specs.Drafts.{Makes}
use Rattle.rx_links.specs.Readers.{IsIn}
use Rattle.rx_read.specs.Lists.{list_of}
use Rattle.rx_read.specs.Places.{mark_in, places_in}
use Rattle.rx_read.proofs.Links.{by_value, by_sibling, same_rest}
use Rattle.rx_read.proofs.Listing.{rest_smaller}
use Rattle.rx_beside.proofs.Standing.{rest_made}
use Rattle.rx_beside.proofs.Here.{next_places, passed}
use Rattle.rx_beside.proofs.children.next_node.Goals as goal

pub returns-in_err-next-clause-places : goal.returns-in_err-next-clause-places
returns-in_err-next-clause-places c n =
    let t = c.args.tree.now in
    let i = c.args.id in
    let l = by_sibling t c.facts.ensures.fits c.facts.ensures.linked i c.next_sibling.result c.requires c.next_sibling.ensures.current c.next_sibling.ensures.made in
    next_places t i l.0 l.1 _ l.2 c.from_residual.result (λ m. ap (λ o. places_in m (list_of t o)) (c.in_err-next.was ∙ sym c.from_residual.ensures)) n

pub returns-in_err-next-clause-lower : goal.returns-in_err-next-clause-lower
returns-in_err-next-clause-lower c =
    let t = c.args.tree.now in
    let i = c.args.id in
    let l = by_sibling t c.facts.ensures.fits c.facts.ensures.linked i c.next_sibling.result c.requires c.next_sibling.ensures.current c.next_sibling.ensures.made in
    subst (λ o. size (list_of t o) < size (list_of t (Some i))) (c.in_err-next.was ∙ sym c.from_residual.ensures) (rest_smaller t i l.0 l.1 _ l.2)

pub value-requires : goal.value-requires
value-requires c =
    let t = c.args.tree.now in
    let l = by_sibling t c.facts.ensures.fits c.facts.ensures.linked c.args.id c.next_sibling.result c.requires c.next_sibling.ensures.current c.next_sibling.ensures.made in
    some-at _ (IsIn t) c.in_ok-next.next l.2.sibling_in c.in_ok-next.was

pub next_sibling-requires-else-is_begun : goal.next_sibling-requires-else-is_begun
next_sibling-requires-else-is_begun c =
    let t = c.args.tree.now in
    let l = by_sibling t c.facts.ensures.fits c.facts.ensures.linked c.args.id c.next_sibling.result c.requires c.next_sibling.ensures.current c.next_sibling.ensures.made in
    some-at _ (IsIn t) c.in_ok-next.next l.2.sibling_in c.in_ok-next.was

pub returns-then-is_begun-clause-places : goal.returns-then-is_begun-clause-places
returns-then-is_begun-clause-places c n =
    let t = c.args.tree.now in
    let i = c.args.id in
    let l = by_sibling t c.facts.ensures.fits c.facts.ensures.linked i c.next_sibling.result c.requires c.next_sibling.ensures.current c.next_sibling.ensures.made in
    next_places t i l.0 l.1 _ l.2 (Some c.in_ok-next.next) (λ m. ap (λ o. places_in m (list_of t o)) c.in_ok-next.was) n

pub returns-then-is_begun-clause-inside : goal.returns-then-is_begun-clause-inside
returns-then-is_begun-clause-inside c =
    let t = c.args.tree.now in
    let l = by_sibling t c.facts.ensures.fits c.facts.ensures.linked c.args.id c.next_sibling.result c.requires c.next_sibling.ensures.current c.next_sibling.ensures.made in
    some-at _ (IsIn t) c.in_ok-next.next l.2.sibling_in c.in_ok-next.was

pub returns-then-is_begun-clause-made : goal.returns-then-is_begun-clause-made
returns-then-is_begun-clause-made c m =
    let t = c.args.tree.now in
    some-at _ (Makes t.draft) c.in_ok-next.next (rest_made t c.facts.ensures.fits c.facts.ensures.linked c.args.id m _ (c.next_sibling.ensures.made m)) c.in_ok-next.was

pub returns-then-is_begun-clause-lower : goal.returns-then-is_begun-clause-lower
returns-then-is_begun-clause-lower c =
    let t = c.args.tree.now in
    let i = c.args.id in
    let l = by_sibling t c.facts.ensures.fits c.facts.ensures.linked i c.next_sibling.result c.requires c.next_sibling.ensures.current c.next_sibling.ensures.made in
    subst (λ o. size (list_of t o) < size (list_of t (Some i))) c.in_ok-next.was (rest_smaller t i l.0 l.1 _ l.2)

pub returns-else-is_begun-clause-places : goal.returns-else-is_begun-clause-places
returns-else-is_begun-clause-places c n =
    let t = c.args.tree.now in
    let i = c.args.id in
    let j = c.in_ok-next.next in
    let v = c.value.result.now in
    let r = c.next_sibling-else-is_begun in
    let l = by_sibling t c.facts.ensures.fits c.facts.ensures.linked i c.next_sibling.result c.requires c.next_sibling.ensures.current c.next_sibling.ensures.made in
    let inside = some-at _ (IsIn t) j l.2.sibling_in c.in_ok-next.was in
    let k = by_value t c.facts.ensures.fits c.facts.ensures.linked j v inside c.value.ensures.current c.value.ensures.made in
    let h = by_sibling t c.facts.ensures.fits c.facts.ensures.linked j r.result inside r.ensures.current r.ensures.made in
    let none = ap (λ s. is_some (mark_in s)) (sym c.stage.ensures) ∙ sym c.is_begun.ensures ∙ c.if-is_begun.false in
    next_places t i l.0 l.1 _ l.2 r.result
    (λ m. ap (λ o. places_in m (list_of t o)) c.in_ok-next.was ∙ passed t j v _ _ k.2 none m ∙ ap (places_in m) (same_rest t j v h.0 _ h.1 _ _ k.2 h.2)) n

pub returns-else-is_begun-clause-inside : goal.returns-else-is_begun-clause-inside
returns-else-is_begun-clause-inside c =
    let t = c.args.tree.now in
    let r = c.next_sibling-else-is_begun in
    let l = by_sibling t c.facts.ensures.fits c.facts.ensures.linked c.args.id c.next_sibling.result c.requires c.next_sibling.ensures.current c.next_sibling.ensures.made in
    let inside = some-at _ (IsIn t) c.in_ok-next.next l.2.sibling_in c.in_ok-next.was in
    (by_sibling t c.facts.ensures.fits c.facts.ensures.linked c.in_ok-next.next r.result inside r.ensures.current r.ensures.made).2.sibling_in

pub returns-else-is_begun-clause-made : goal.returns-else-is_begun-clause-made
returns-else-is_begun-clause-made c m =
    let t = c.args.tree.now in
    let j = c.in_ok-next.next in
    let k = some-at _ (Makes t.draft) j (rest_made t c.facts.ensures.fits c.facts.ensures.linked c.args.id m _ (c.next_sibling.ensures.made m)) c.in_ok-next.was in
    rest_made t c.facts.ensures.fits c.facts.ensures.linked j k _ (c.next_sibling-else-is_begun.ensures.made k)

pub returns-else-is_begun-clause-lower : goal.returns-else-is_begun-clause-lower
returns-else-is_begun-clause-lower c =
    let t = c.args.tree.now in
    let i = c.args.id in
    let j = c.in_ok-next.next in
    let r = c.next_sibling-else-is_begun in
    let l = by_sibling t c.facts.ensures.fits c.facts.ensures.linked i c.next_sibling.result c.requires c.next_sibling.ensures.current c.next_sibling.ensures.made in
    let inside = some-at _ (IsIn t) j l.2.sibling_in c.in_ok-next.was in
    let h = by_sibling t c.facts.ensures.fits c.facts.ensures.linked j r.result inside r.ensures.current r.ensures.made in
    let first = subst (λ o. size (list_of t o) < size (list_of t (Some i))) c.in_ok-next.was (rest_smaller t i l.0 l.1 _ l.2) in
    let second = rest_smaller t j h.0 h.1 _ h.2 in
    omega (arith, first, second)
