use Rattle.std.proofs.Common.{append-nil, arith, ap, sym, ◌∙◌, ◌+◌, ◌++◌, drop}
use Rattle.std.proofs.lemmas.Result.{on_ok_weaker}
use Rattle.rx_elem.specs.Trees.{children_of, forest}
use Rattle.rx_elem.specs.Spots.{mounted_at, spots_in, around_children}
use Rattle.rx_spots.proofs.Lists.{height-get}
use Rattle.rx_spots.proofs.Mounting.{own_mounted, mounted-parts, mounted-more, mounted-vacant}
use Rattle.rx_spots.proofs.Nothing.{nothing_mounted}
use Rattle.rx_spots.proofs.listing.+mounting.Goals as goal
use Rattle.rx_spots.proofs.listing.+mounting.Goals.{add_in-in-Some+in_ok-add_from, add_in-in_default}

pub add_from-returns-then-not-mounts : goal.add_from-returns-then-not-mounts
add_from-returns-then-not-mounts t c =
    let nothing = nothing_mounted c.args.around c.args.node.now (sym c.mounts.ensures ∙ c.if-not-mounts.true) in
    sym (append-nil c.args.found.now.items) ∙ ap (λ ms. c.args.found.now.items ++ ms) (sym nothing)

pub add_from-returns : goal.add_from-returns
add_from-returns t c =
    let before = c.args.found.now.items in
    let own = c.add_own.new.found.items in
    let inside = c.add_in.new.found.items in
    on_ok_weaker c.add_in-2.result
    (λ all. mounted-parts c.args.around c.args.node.now before own inside c.add_in-2.new.found.items
    (c.in_ok-add_own.ensures ∙ ap (λ m. before ++ own_mounted c.args.around m) c.mark.ensures)
    (c.in_ok-add_in.ensures ∙ ap (λ f. own ++ mounted_at (spots_in c.below.result f)) c.children.ensures.all
    ∙ ap (λ a. own ++ mounted_at (spots_in a (children_of c.args.node.now))) (c.below.ensures ∙ ap (around_children c.args.around) c.mark-2.ensures))
    (all ∙ ap (λ f. inside ++ mounted_at (spots_in c.args.around f)) c.fallback.ensures.all))
    c.add_in-2.ensures

pub add_in-add_from-requires : goal.add_in-add_from-requires
add_in-add_from-requires t c =
    (omega (arith, height-get c.args.places.now c.loop-place.place-index c.place-item.result c.in-Some.node c.loop-place-test.true c.place-item.is c.in-Some.is), tt)

pub add_in-loop-place-preserved : goal.add_in-loop-place-preserved
add_in-loop-place-preserved t c =
    elim c.match-place.branch [
      | add_in-in-Some+in_ok-add_from w ↦
          mounted-more c.args.around c.args.places.now c.loop-place.place-index c.place-item.result w.in-Some.node c.loop-place.found.items c.match-place.found.items
          c.loop-place-test.true c.place-item.is w.in-Some.is (ap (λ v. v.items) w.found-is ∙ w.in_ok-add_from.ensures) ∙ c.loop-place.invariant
      | add_in-in_default w ↦
          ap (λ v. v.items ++ mounted_at (spots_in c.args.around (forest (drop (c.loop-place.place-index + 1) c.args.places.now)))) w.found-is
          ∙ ap (λ ms. c.loop-place.found.items ++ ms) (mounted-vacant c.args.around c.args.places.now c.loop-place.place-index c.place-item.result c.loop-place-test.true c.place-item.is w.in_default.is)
          ∙ c.loop-place.invariant
    ]
