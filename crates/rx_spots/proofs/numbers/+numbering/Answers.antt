use Rattle.std.proofs.Common.{append-nil, arith, ap, sym, ◌∙◌, ◌+◌, ◌++◌, [], drop}
use Rattle.std.specs.List.{cons_option}
use Rattle.std.proofs.lemmas.Result.{on_ok_weaker}
use Rattle.rx_elem.specs.Spots.{around_children, mounted_at, numbers_of, spots_in}
use Rattle.rx_elem.specs.Trees.{forest, mark_of}
use Rattle.rx_spots.specs.Places.{own_number}
use Rattle.rx_spots.proofs.Lists.{height-get}
use Rattle.rx_spots.proofs.Mounting.{mounted-vacant}
use Rattle.rx_spots.proofs.Nothing.{nothing_mounted}
use Rattle.rx_spots.proofs.SameInstances.{numbers-more, numbers-parts}
use Rattle.rx_spots.proofs.numbers.+numbering.Goals as goal
use Rattle.rx_spots.proofs.numbers.+numbering.Goals.{number_in-in-Some+in_ok-number_from, number_in-in_default}

pub number_from-returns-then-not-mounts : goal.number_from-returns-then-not-mounts
number_from-returns-then-not-mounts t c a =
    let nothing = nothing_mounted a c.args.node.now (sym c.mounts.ensures ∙ c.if-not-mounts.true) in
    sym (append-nil c.args.found.now.items) ∙ ap (λ ms. c.args.found.now.items ++ numbers_of ms) (sym nothing)

pub number_from-returns : goal.number_from-returns
number_from-returns t c =
    let before = c.args.found.now.items in
    let own = c.add_number.new.found.items in
    let inside = c.number_in.new.found.items in
    let node = c.args.node.now in
    on_ok_weaker c.number_in-2.result
    (λ all a.
    numbers-parts a node before own inside c.number_in-2.new.found.items
    (c.in_ok-add_number.ensures ∙ ap (λ m. before ++ cons_option (own_number m) []) c.mark.ensures)
    (c.in_ok-number_in.ensures (around_children a (mark_of node)) ∙ ap (λ f. own ++ numbers_of (mounted_at (spots_in (around_children a (mark_of node)) f))) c.children.ensures.all)
    (all a ∙ ap (λ f. inside ++ numbers_of (mounted_at (spots_in a f))) c.fallback.ensures.all))
    c.number_in-2.ensures

pub number_in-number_from-requires : goal.number_in-number_from-requires
number_in-number_from-requires t c =
    (omega (arith, height-get c.args.places.now c.loop-place.place-index c.place-item.result c.in-Some.node c.loop-place-test.true c.place-item.is c.in-Some.is), tt)

pub number_in-loop-place-preserved : goal.number_in-loop-place-preserved
number_in-loop-place-preserved t c a =
    elim c.match-place.branch [
      | number_in-in-Some+in_ok-number_from w ↦
          numbers-more a c.args.places.now c.loop-place.place-index c.place-item.result w.in-Some.node c.loop-place.found.items c.match-place.found.items
          c.loop-place-test.true c.place-item.is w.in-Some.is (ap (λ v. v.items) w.found-is ∙ w.in_ok-number_from.ensures a) ∙ c.loop-place.invariant a
      | number_in-in_default w ↦
          ap (λ v. v.items ++ numbers_of (mounted_at (spots_in a (forest (drop (c.loop-place.place-index + 1) c.args.places.now))))) w.found-is
          ∙ (ap (λ ms. c.loop-place.found.items ++ numbers_of ms) (mounted-vacant a c.args.places.now c.loop-place.place-index c.place-item.result c.loop-place-test.true c.place-item.is w.in_default.is)
          ∙ c.loop-place.invariant a)
    ]
