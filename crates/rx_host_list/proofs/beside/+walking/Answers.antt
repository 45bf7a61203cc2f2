use Rattle.std.proofs.Common.{◌≡◌, ◌<◌, Some, false, refl, sym, ap, ◌∙◌, subst, arith}
use Rattle.std.proofs.lemmas.Result.{on_ok_weaker}
use Rattle.rx_elem.specs.Spots.{around_children}
use Rattle.rx_elem.specs.Trees.{forest}
use Rattle.rx_set.specs.Sets.{holds}
use Rattle.rx_lists.specs.Shapes.{size}
use Rattle.rx_lists.proofs.Frames.{some-at}
use Rattle.rx_node.specs.MarkView.{mark_seen}
use Rattle.rx_fiber.specs.FiberView.{stage_seen}
use Rattle.rx_read.specs.Lists.{list_of}
use Rattle.rx_read.specs.Places.{mark_in, places_in}
use Rattle.rx_read.proofs.Links.{by_value, by_sibling}
use Rattle.rx_read.proofs.Listing.{primary_smaller, fallback_smaller, rest_smaller, not_begun}
use Rattle.rx_host_list.specs.Walks.{HasWalked, spots_of}
use Rattle.rx_host_list.proofs.Listed.{node_here}
use Rattle.rx_host_list.proofs.Walks.{both-walked, no-spots, node-spots, node-walked, none-walked, passed-walked, spots-linked}
use Rattle.rx_host_list.proofs.beside.+walking.Goals as goal

pub walk-returns-then-not-has : goal.walk-returns-then-not-has
walk-returns-then-not-has t c =
    λ a host concealed.
    let out : holds c.args.wanted.now a.host ≡ false = ap (holds c.args.wanted.now) host ∙ sym c.has.ensures ∙ c.if-not-has.true in
    passed-walked (holds c.args.wanted.now) (holds c.args.met.now) c.args.found.now.items a (forest (places_in 0 (list_of c.args.tree.now c.args.first))) out

pub walk-walking-smaller : goal.walk-walking-smaller
walk-walking-smaller t c =
    let trees = c.args.tree.now in
    let i = c.in-Some.id in
    let l = by_sibling trees c.facts.ensures.fits c.facts.ensures.linked i c.next_sibling-next.result (some-at _ _ _ c.walking.invariant.inside c.in-Some.is) c.next_sibling-next.ensures.current c.next_sibling-next.ensures.made in
    subst (λ o. size (list_of trees c.next_sibling-next.result) < size (list_of trees o)) (sym c.in-Some.is) (rest_smaller trees i l.0 l.1 _ l.2)

pub walk-walking-preserved : goal.walk-walking-preserved
walk-walking-preserved t c =
    let trees = c.args.tree.now in
    let i = c.in-Some.id in
    let w = holds c.args.wanted.now in
    let l = by_sibling trees c.facts.ensures.fits c.facts.ensures.linked i c.next_sibling-next.result (some-at _ _ _ c.walking.invariant.inside c.in-Some.is) c.next_sibling-next.ensures.current c.next_sibling-next.ensures.made in
    let smaller = subst (λ o. size (list_of trees c.next_sibling-next.result) < size (list_of trees o)) (sym c.in-Some.is) (rest_smaller trees i l.0 l.1 _ l.2) in
    record {
      inside = l.2.sibling_in;
      left = λ a host concealed after all rest.
          c.walking.invariant.left a host concealed after all
          (subst (λ o. HasWalked w (holds c.walking.met) after c.walking.found.items all (spots_of a (list_of trees o))) (sym c.in-Some.is)
          (subst (HasWalked w (holds c.walking.met) after c.walking.found.items all) (sym (spots-linked trees i l.0 l.1 _ l.2 a))
          (both-walked w (holds c.walking.met) (holds c.walk_from.new.met) after c.walking.found.items c.walk_from.new.found.items all _ _
          (c.in_ok-walk_from.ensures a host concealed) rest)));
      within = omega (arith, c.walking.invariant.within, smaller);
    }

pub walk_from-returns-in_default : goal.walk_from-returns-in_default
walk_from-returns-in_default t c =
    let trees = c.args.tree.now in
    let v = c.value-fiber.result.now in
    let l = by_value trees c.facts.ensures.fits c.facts.ensures.linked c.args.id v c.requires c.value-fiber.ensures.current c.value-fiber.ensures.made in
    λ a host concealed.
    subst (HasWalked (holds c.args.wanted.now) (holds c.args.met.now) (holds c.args.met.now) c.args.found.now.items c.args.found.now.items)
    (sym (no-spots trees c.args.id v _ _ l.2 (ap mark_in (sym c.stage.ensures) ∙ not_begun c.stage.result.now c.in_default.not-Begun) a))
    (none-walked (holds c.args.wanted.now) (holds c.args.met.now) c.args.found.now.items)

pub walk_from-walk-requires : goal.walk_from-walk-requires
walk_from-walk-requires t c =
    let trees = c.args.tree.now in
    let v = c.value-fiber.result.now in
    let l = by_value trees c.facts.ensures.fits c.facts.ensures.linked c.args.id v c.requires c.value-fiber.ensures.current c.value-fiber.ensures.made in
    let smaller = subst (λ s. size s < size (list_of trees (Some c.args.id))) (sym c.lists_of-lists.ensures.children) (primary_smaller trees c.args.id v _ _ l.2) in
    (omega (arith, c.decreases, smaller), c.lists_of-lists.ensures.children_in)

pub walk_from-walk-requires-2 : goal.walk_from-walk-requires-2
walk_from-walk-requires-2 t c =
    let trees = c.args.tree.now in
    let v = c.value-fiber.result.now in
    let l = by_value trees c.facts.ensures.fits c.facts.ensures.linked c.args.id v c.requires c.value-fiber.ensures.current c.value-fiber.ensures.made in
    let smaller = subst (λ s. size s < size (list_of trees (Some c.args.id))) (sym c.lists_of-lists.ensures.fallback) (fallback_smaller trees c.args.id v _ _ l.2) in
    (omega (arith, c.decreases, smaller), c.lists_of-lists.ensures.fallback_in)

pub walk_from-returns : goal.walk_from-returns
walk_from-returns t c =
    let trees = c.args.tree.now in
    let v = c.value-fiber.result.now in
    let l = by_value trees c.facts.ensures.fits c.facts.ensures.linked c.args.id v c.requires c.value-fiber.ensures.current c.value-fiber.ensures.made in
    let m = mark_seen c.in-Begun.mark in
    let w = holds c.args.wanted.now in
    let x = node_here trees c.args.id v _ _ l.2 m in
    on_ok_weaker c.walk-2.result
    (λ fallback a host concealed.
    subst (HasWalked w (holds c.args.met.now) (holds c.walk-2.new.met) c.args.found.now.items c.walk-2.new.found.items)
    (sym (node-spots trees c.args.id v _ _ l.2 m (sym c.stage.ensures ∙ ap stage_seen c.in-Begun.is) a))
    (node-walked w a x _ _ _ _ _ _ _ _
    (record { met = λ n h. c.in_ok-note_met.ensures a x n refl h; told = λ once all. c.in_ok-list_own.ensures a x host concealed c.element.ensures refl })
    (subst (λ s. HasWalked w (holds c.note_met.new.met) (holds c.walk.new.met) c.list_own.new.found.items c.walk.new.found.items (spots_of (around_children a m) s))
    c.lists_of-lists.ensures.children (c.in_ok-walk.ensures (around_children a m) (c.above_children-below.ensures.host a host) (c.above_children-below.ensures.concealed a concealed)))
    (subst (λ s. HasWalked w (holds c.walk.new.met) (holds c.walk-2.new.met) c.walk.new.found.items c.walk-2.new.found.items (spots_of a s))
    c.lists_of-lists.ensures.fallback (fallback a host concealed))))
    c.walk-2.ensures
