use Rattle.std.proofs.Common.{◌-◌, ◌<◌, ◌++◌, length, Some, None, sym, ap, ◌∙◌, subst, arith}
use Rattle.rx_lists.specs.Shapes.{size}
use Rattle.rx_lists.proofs.Frames.{some-at}
use Rattle.rx_node.specs.MarkView.{mark_seen}
use Rattle.rx_fiber.specs.FiberView.{stage_seen}
use Rattle.rx_fiber.specs.OldLists.{filled}
use Rattle.rx_read.specs.Lists.{list_of}
use Rattle.rx_read.specs.Places.{mark_in, places_in}
use Rattle.rx_read.proofs.Links.{by_value, by_sibling}
use Rattle.rx_read.proofs.Listing.{primary_smaller, fallback_smaller, rest_smaller, none_read, not_begun, node_parts, node_read, node_added, list_step}
use Rattle.rx_read.proofs.reading.+read.Goals as goal

pub read_list-reading-smaller : goal.read_list-reading-smaller
read_list-reading-smaller t c =
    let trees = c.args.tree.now in
    let i = c.in-Some.id in
    let l = by_sibling trees c.facts.ensures.fits c.facts.ensures.linked i c.next_sibling-next.result (some-at _ _ _ c.reading.invariant.inside c.in-Some.is) c.next_sibling-next.ensures.current c.next_sibling-next.ensures.made in
    subst (λ o. size (list_of trees c.next_sibling-next.result) < size (list_of trees o)) (sym c.in-Some.is) (rest_smaller trees i l.0 l.1 _ l.2)

pub read_list-reading-preserved : goal.read_list-reading-preserved
read_list-reading-preserved t c =
    let trees = c.args.tree.now in
    let i = c.in-Some.id in
    let l = by_sibling trees c.facts.ensures.fits c.facts.ensures.linked i c.next_sibling-next.result (some-at _ _ _ c.reading.invariant.inside c.in-Some.is) c.next_sibling-next.ensures.current c.next_sibling-next.ensures.made in
    let smaller = subst (λ o. size (list_of trees c.next_sibling-next.result) < size (list_of trees o)) (sym c.in-Some.is) (rest_smaller trees i l.0 l.1 _ l.2) in
    record {
      inside = l.2.sibling_in;
      places = list_step trees c.reading.next i l.0 l.1 _ l.2 _ _ _ c.in-Some.is c.reading.invariant.places c.in_ok-read_node.ensures;
      within = omega (arith, c.reading.invariant.within, smaller);
    }

pub read_fiber-returns-in_default : goal.read_fiber-returns-in_default
read_fiber-returns-in_default t c =
    let trees = c.args.tree.now in
    let v = c.value-fiber.result.now in
    let l = by_value trees c.facts.ensures.fits c.facts.ensures.linked c.args.id v c.requires c.value-fiber.ensures.current c.value-fiber.ensures.made in
    none_read trees c.args.id v _ _ l.2 (ap mark_in (sym c.stage.ensures) ∙ not_begun c.stage.result.now c.in_default.not-Begun)

pub read_fiber-read_list-requires : goal.read_fiber-read_list-requires
read_fiber-read_list-requires t c =
    let trees = c.args.tree.now in
    let v = c.value-fiber.result.now in
    let l = by_value trees c.facts.ensures.fits c.facts.ensures.linked c.args.id v c.requires c.value-fiber.ensures.current c.value-fiber.ensures.made in
    let smaller = subst (λ s. size s < size (list_of trees (Some c.args.id))) (sym c.lists_of-lists.ensures.children) (primary_smaller trees c.args.id v _ _ l.2) in
    (omega (arith, c.decreases, smaller), c.lists_of-lists.ensures.children_in)

pub read_fiber-read_list-requires-2 : goal.read_fiber-read_list-requires-2
read_fiber-read_list-requires-2 t c =
    let trees = c.args.tree.now in
    let v = c.value-fiber.result.now in
    let l = by_value trees c.facts.ensures.fits c.facts.ensures.linked c.args.id v c.requires c.value-fiber.ensures.current c.value-fiber.ensures.made in
    let smaller = subst (λ s. size s < size (list_of trees (Some c.args.id))) (sym c.lists_of-lists.ensures.fallback) (fallback_smaller trees c.args.id v _ _ l.2) in
    (omega (arith, c.decreases, smaller), c.lists_of-lists.ensures.fallback_in)

pub read_fiber-returns : goal.read_fiber-returns
read_fiber-returns t c =
    let trees = c.args.tree.now in
    let v = c.value-fiber.result.now in
    let l = by_value trees c.facts.ensures.fits c.facts.ensures.linked c.args.id v c.requires c.value-fiber.ensures.current c.value-fiber.ensures.made in
    node_read trees c.args.id v _ _ l.2 (mark_seen c.in-Begun.mark) (sym c.stage.ensures ∙ ap stage_seen c.in-Begun.is) c.in_ok-node.node _ _
    (c.in_ok-children.ensures ∙ ap (places_in 0) c.lists_of-lists.ensures.children)
    (c.in_ok-fallback.ensures ∙ ap (places_in 0) c.lists_of-lists.ensures.fallback)
    (node_parts _ _ _ _ _ _ _ c.in_ok-node.ensures (c.in_ok-copy.ensures ∙ c.element.ensures) c.in_ok-copy-2.ensures)

pub read_node-returns-in_ok-push : goal.read_node-returns-in_ok-push
read_node-returns-in_ok-push t c =
    let trees = c.args.tree.now in
    let v = c.value.result.now in
    let l = by_value trees c.facts.ensures.fits c.facts.ensures.linked c.args.id v c.requires c.value.ensures.current c.value.ensures.made in
    node_added trees c.args.id v _ _ l.2 _ _ _ c.in-Some.node
    (sym c.in-Some.is ∙ c.in_ok-node.ensures)
    (c.in_ok-fill.ensures ∙ ap (λ p. c.args.nodes.now.items ++ filled (p - length c.args.nodes.now.items) None) c.place.ensures)
    c.in_ok-push.ensures.items
