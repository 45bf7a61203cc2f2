use Rattle.std.proofs.Common.{◌<◌, ◌++◌, Some, refl, sym, ap, ◌∙◌, subst, arith}
use Rattle.std.proofs.lemmas.Result.{on_ok_weaker}
use Rattle.rx_elem.specs.Spots.{around_children}
use Rattle.rx_lists.specs.Shapes.{size}
use Rattle.rx_lists.proofs.Frames.{some-at}
use Rattle.rx_node.specs.MarkView.{mark_seen}
use Rattle.rx_fiber.specs.FiberView.{stage_seen}
use Rattle.rx_read.specs.Lists.{list_of}
use Rattle.rx_read.specs.Places.{mark_in}
use Rattle.rx_read.proofs.Links.{by_value, by_sibling}
use Rattle.rx_read.proofs.Listing.{primary_smaller, fallback_smaller, rest_smaller, not_begun}
use Rattle.rx_host_list.specs.Listed.{hosts_in}
use Rattle.rx_host_list.proofs.Listed.{list-step, node_here, node-parts, none-first}
use Rattle.rx_host_list.proofs.listing.+listing.Goals as goal

pub add_list-listing-smaller : goal.add_list-listing-smaller
add_list-listing-smaller t c =
    let trees = c.args.tree.now in
    let i = c.in-Some.id in
    let l = by_sibling trees c.facts.ensures.fits c.facts.ensures.linked i c.next_sibling-next.result (some-at _ _ _ c.listing.invariant.inside c.in-Some.is) c.next_sibling-next.ensures.current c.next_sibling-next.ensures.made in
    subst (λ o. size (list_of trees c.next_sibling-next.result) < size (list_of trees o)) (sym c.in-Some.is) (rest_smaller trees i l.0 l.1 _ l.2)

pub add_list-listing-preserved : goal.add_list-listing-preserved
add_list-listing-preserved t c =
    let trees = c.args.tree.now in
    let i = c.in-Some.id in
    let l = by_sibling trees c.facts.ensures.fits c.facts.ensures.linked i c.next_sibling-next.result (some-at _ _ _ c.listing.invariant.inside c.in-Some.is) c.next_sibling-next.ensures.current c.next_sibling-next.ensures.made in
    let smaller = subst (λ o. size (list_of trees c.next_sibling-next.result) < size (list_of trees o)) (sym c.in-Some.is) (rest_smaller trees i l.0 l.1 _ l.2) in
    record {
      inside = l.2.sibling_in;
      left = λ a host concealed.
          list-step trees i l.0 l.1 _ l.2 c.listing.next a c.listing.found.items c.add_fiber.new.found.items _ c.in-Some.is
          (c.in_ok-add_fiber.ensures a host concealed) (c.listing.invariant.left a host concealed);
      within = omega (arith, c.listing.invariant.within, smaller);
    }

pub add_fiber-returns-in_default : goal.add_fiber-returns-in_default
add_fiber-returns-in_default t c =
    let trees = c.args.tree.now in
    let v = c.value-fiber.result.now in
    let l = by_value trees c.facts.ensures.fits c.facts.ensures.linked c.args.id v c.requires c.value-fiber.ensures.current c.value-fiber.ensures.made in
    λ a host concealed.
    none-first trees c.args.id v _ _ l.2 (ap mark_in (sym c.stage.ensures) ∙ not_begun c.stage.result.now c.in_default.not-Begun) a c.args.found.now.items

pub add_fiber-add_list-requires : goal.add_fiber-add_list-requires
add_fiber-add_list-requires t c =
    let trees = c.args.tree.now in
    let v = c.value-fiber.result.now in
    let l = by_value trees c.facts.ensures.fits c.facts.ensures.linked c.args.id v c.requires c.value-fiber.ensures.current c.value-fiber.ensures.made in
    let smaller = subst (λ s. size s < size (list_of trees (Some c.args.id))) (sym c.lists_of-lists.ensures.children) (primary_smaller trees c.args.id v _ _ l.2) in
    (omega (arith, c.decreases, smaller), c.lists_of-lists.ensures.children_in)

pub add_fiber-add_list-requires-2 : goal.add_fiber-add_list-requires-2
add_fiber-add_list-requires-2 t c =
    let trees = c.args.tree.now in
    let v = c.value-fiber.result.now in
    let l = by_value trees c.facts.ensures.fits c.facts.ensures.linked c.args.id v c.requires c.value-fiber.ensures.current c.value-fiber.ensures.made in
    let smaller = subst (λ s. size s < size (list_of trees (Some c.args.id))) (sym c.lists_of-lists.ensures.fallback) (fallback_smaller trees c.args.id v _ _ l.2) in
    (omega (arith, c.decreases, smaller), c.lists_of-lists.ensures.fallback_in)

pub add_fiber-returns : goal.add_fiber-returns
add_fiber-returns t c =
    let trees = c.args.tree.now in
    let v = c.value-fiber.result.now in
    let l = by_value trees c.facts.ensures.fits c.facts.ensures.linked c.args.id v c.requires c.value-fiber.ensures.current c.value-fiber.ensures.made in
    let m = mark_seen c.in-Begun.mark in
    let own = c.add_host.new.found.items in
    let inside = c.add_list.new.found.items in
    on_ok_weaker c.add_list-2.result
    (λ all a host concealed.
    node-parts trees c.args.id v _ _ l.2 m (sym c.stage.ensures ∙ ap stage_seen c.in-Begun.is) a c.args.found.now.items own inside c.add_list-2.new.found.items
    (c.in_ok-add_host.ensures.added a (node_here trees c.args.id v _ _ l.2 m) host concealed c.element.ensures refl)
    (c.in_ok-add_list.ensures (around_children a m) (c.parent_below.ensures a host) (c.concealed_below.ensures a concealed)
    ∙ ap (λ s. own ++ hosts_in (around_children a m) s) c.lists_of-lists.ensures.children)
    (all a host concealed ∙ ap (λ s. inside ++ hosts_in a s) c.lists_of-lists.ensures.fallback))
    c.add_list-2.ensures
