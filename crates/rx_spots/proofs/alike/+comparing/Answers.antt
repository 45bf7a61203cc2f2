use Rattle.std.proofs.Common.{arith, ap, sym, ◌∙◌, ◌≡◌}
use Rattle.std.specs.Option.{option_copied}
use Rattle.rx_elem.specs.Trees.{mark_of}
use Rattle.rx_spots.specs.Places.{own_number}
use Rattle.rx_spots.proofs.SameInstances.{mounting_height, node_same, none_more, same_forests, same_numbers, some_more}
use Rattle.rx_spots.proofs.alike.+comparing.Goals as goal
use Rattle.rx_spots.proofs.alike.+comparing.Goals.{are_alike_in-in-None-None, are_alike_in-in-Some-Some+else-not-are_alike}

pub are_alike-returns-then-are_alike_in-clause-same : goal.are_alike-returns-then-are_alike_in-clause-same
are_alike-returns-then-are_alike_in-clause-same t c behind =
    let old_is = c.instance_number.ensures ∙ ap own_number c.mark.ensures in
    let new_is = c.instance_number-2.ensures ∙ ap own_number c.mark-2.ensures in
    let equal = same_numbers c.instance_number.result c.instance_number-2.result (sym c.if-ne.ensures) in
    let own : own_number (mark_of c.args.old.now) ≡ own_number (mark_of c.args.new.now) = sym old_is ∙ (equal ∙ new_is) in
    node_same c.args.old.now c.args.new.now own
    (same_forests _ _ _ _ c.children.ensures.all c.children-2.ensures.all (c.are_alike_in.ensures.same c.if-are_alike_in.true))
    (same_forests _ _ _ _ c.fallback.ensures.all c.fallback-then-are_alike_in.ensures.all (c.are_alike_in-then-are_alike_in.ensures.same behind))

pub are_alike_in-are_alike-requires : goal.are_alike_in-are_alike-requires
are_alike_in-are_alike-requires t c =
    let at = sym c.mounting_at.ensures ∙ ap option_copied c.in-Some-Some.is-0 in
    (omega (arith, mounting_height c.args.old.now c.pairing.place c.in-Some-Some.old.now at), tt)

pub are_alike_in-pairing-preserved : goal.are_alike_in-pairing-preserved
are_alike_in-pairing-preserved t c =
    elim c.match-mounting_at.branch [
      | are_alike_in-in-None-None w ↦
          λ rest. c.pairing.invariant
          (none_more c.args.old.now c.args.new.now c.pairing.place
          (sym c.mounting_at.ensures ∙ ap option_copied w.in-None-None.is-0) (sym c.mounting_at-in-pairing.ensures ∙ ap option_copied w.in-None-None.is-1) rest)
      | are_alike_in-in-Some-Some+else-not-are_alike w ↦
          λ rest. c.pairing.invariant
          (some_more c.args.old.now c.args.new.now c.pairing.place w.in-Some-Some.old.now w.in-Some-Some.new.now
          (sym c.mounting_at.ensures ∙ ap option_copied w.in-Some-Some.is-0) (sym c.mounting_at-in-pairing.ensures ∙ ap option_copied w.in-Some-Some.is-1)
          (w.are_alike.ensures.same w.if-not-are_alike.false) rest)
    ]
