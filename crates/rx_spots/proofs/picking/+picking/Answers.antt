use Rattle.std.proofs.Common.{append-nil, arith, ap, sym, ◌∙◌, ◌+◌, ◌++◌, drop}
use Rattle.rx_set.specs.Sets.{holds}
use Rattle.std.proofs.lemmas.Result.{on_ok_weaker}
use Rattle.rx_elem.specs.Trees.{forest, mark_of}
use Rattle.rx_elem.specs.Spots.{mounted_at, spots_in, around_children}
use Rattle.rx_spots.specs.Places.{among}
use Rattle.rx_spots.proofs.Among.{among-more, among-parts, among-vacant}
use Rattle.rx_spots.proofs.Lists.{height-get}
use Rattle.rx_spots.proofs.Mounting.{own_mounted}
use Rattle.rx_spots.proofs.Nothing.{nothing_mounted}
use Rattle.rx_spots.proofs.picking.+picking.Goals as goal
use Rattle.rx_spots.proofs.picking.+picking.Goals.{pick_in-in-Some+in_ok-pick_from, pick_in-in_default}

pub pick_from-returns-then-not-mounts : goal.pick_from-returns-then-not-mounts
pick_from-returns-then-not-mounts t c a owner visible =
    let asked = holds c.args.asked.now in
    let nothing = nothing_mounted a c.args.node.now (sym c.mounts.ensures ∙ c.if-not-mounts.true) in
    sym (append-nil c.args.found.now.items) ∙ ap (λ ms. c.args.found.now.items ++ among asked ms) (sym nothing)

pub pick_from-returns : goal.pick_from-returns
pick_from-returns t c =
    let asked = holds c.args.asked.now in
    let before = c.args.found.now.items in
    let own = c.pick_own.new.found.items in
    let inside = c.pick_in.new.found.items in
    let node = c.args.node.now in
    on_ok_weaker c.pick_in-2.result
    (λ all a owner visible.
    among-parts asked a node before own inside c.pick_in-2.new.found.items
    (c.in_ok-pick_own.ensures a owner visible ∙ ap (λ m. before ++ among asked (own_mounted a m)) c.mark-mark.ensures)
    (c.in_ok-pick_in.ensures (around_children a (mark_of node))
    (sym (ap (λ m. (around_children a m).owner) c.mark-mark.ensures) ∙ c.owner_below.ensures a owner)
    (sym (ap (λ m. (around_children a m).visible) c.mark-mark.ensures) ∙ c.visible_below.ensures a visible)
    ∙ ap (λ f. own ++ among asked (mounted_at (spots_in (around_children a (mark_of node)) f))) c.children.ensures.all)
    (all a owner visible ∙ ap (λ f. inside ++ among asked (mounted_at (spots_in a f))) c.fallback.ensures.all))
    c.pick_in-2.ensures

pub pick_in-pick_from-requires : goal.pick_in-pick_from-requires
pick_in-pick_from-requires t c =
    (omega (arith, height-get c.args.places.now c.loop-place.place-index c.place-item.result c.in-Some.node c.loop-place-test.true c.place-item.is c.in-Some.is), c.requires)

pub pick_in-loop-place-preserved : goal.pick_in-loop-place-preserved
pick_in-loop-place-preserved t c a owner visible =
    let asked = holds c.args.asked.now in
    elim c.match-place.branch [
      | pick_in-in-Some+in_ok-pick_from w ↦
          among-more asked a c.args.places.now c.loop-place.place-index c.place-item.result w.in-Some.node c.loop-place.found.items c.match-place.found.items
          c.loop-place-test.true c.place-item.is w.in-Some.is (ap (λ v. v.items) w.found-is ∙ w.in_ok-pick_from.ensures a owner visible) ∙ c.loop-place.invariant a owner visible
      | pick_in-in_default w ↦
          ap (λ v. v.items ++ among asked (mounted_at (spots_in a (forest (drop (c.loop-place.place-index + 1) c.args.places.now))))) w.found-is
          ∙ (ap (λ ms. c.loop-place.found.items ++ ms) (among-vacant asked a c.args.places.now c.loop-place.place-index c.place-item.result c.loop-place-test.true c.place-item.is w.in_default.is)
          ∙ c.loop-place.invariant a owner visible)
    ]
