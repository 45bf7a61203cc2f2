use Rattle.std.proofs.Common.{◌≡◌, ◌&&◌, true, false, refl, ap, sym, ◌∙◌}
use Rattle.std.specs.Prelude.{not}
use Rattle.rx_elem.specs.Elements.{is_present}
use Rattle.rx_elem.specs.Identity.{is_reused}
use Rattle.rx_keys.proofs.Moving.{gone_places-more}
use Rattle.rx_keys.proofs.matching.removed_of_few.Goals as goal
use Rattle.rx_keys.proofs.matching.removed_of_few.Goals.{then-is_gone+in_ok-push, else-is_gone}

pub loop-place-preserved : goal.loop-place-preserved
loop-place-preserved c =
    let gone : c.is_gone.result ≡ (is_present c.index-old-place.result && not (is_reused c.args.places.now c.loop-place.place)) =
    c.is_gone.ensures ∙ ap (λ b. is_present c.index-old-place.result && not b) c.is_reused.ensures in
    elim c.if-is_gone.branch [
      | then-is_gone+in_ok-push w ↦
          gone_places-more c.args.old.now c.args.places.now c.loop-place.place c.index-old-place.result _ c.loop-place.removed.items _ true
          c.loop-place-test.true c.index-old-place.is c.loop-place.invariant (sym w.if-is_gone.true ∙ gone) (rw w.removed-is w.in_ok-push.ensures.items)
      | else-is_gone w ↦
          gone_places-more c.args.old.now c.args.places.now c.loop-place.place c.index-old-place.result _ c.loop-place.removed.items _ false
          c.loop-place-test.true c.index-old-place.is c.loop-place.invariant (sym w.if-is_gone.false ∙ gone) (rw w.removed-is refl)
    ]
