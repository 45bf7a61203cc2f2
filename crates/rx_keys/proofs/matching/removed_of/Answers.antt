use Rattle.std.proofs.Common.{◌≡◌, ◌<◌, ◌&&◌, true, false, length, refl, ap, sym, ◌∙◌, arith}
use Rattle.std.specs.Prelude.{not}
use Rattle.std.proofs.lemmas.List.{get_or_default}
use Rattle.rx_elem.specs.Elements.{is_present}
use Rattle.rx_elem.specs.Identity.{is_reused}
use Rattle.rx_keys.proofs.Moving.{gone_places-more}
use Rattle.rx_keys.proofs.matching.removed_of.Goals as goal
use Rattle.rx_keys.proofs.matching.removed_of.Goals.{then-is_gone+in_ok-push, else-is_gone}

pub loop-place-preserved : goal.loop-place-preserved
loop-place-preserved c =
    let within : c.loop-place.place < length c.in_ok-reused.reused.items = omega (arith, c.in_ok-reused.ensures.len) in
    let marked : c.index.result.now ≡ is_reused c.args.places.now c.loop-place.place =
    c.index.ensures ∙ get_or_default c.in_ok-reused.reused.items c.loop-place.place c.index.result.now false within
    ∙ c.in_ok-reused.ensures.marks c.loop-place.place c.loop-place-test.true in
    let gone : c.is_gone.result ≡ (is_present c.index-old-place.result && not (is_reused c.args.places.now c.loop-place.place)) =
    c.is_gone.ensures ∙ ap (λ b. is_present c.index-old-place.result && not b) marked in
    elim c.if-is_gone.branch [
      | then-is_gone+in_ok-push w ↦
          gone_places-more c.args.old.now c.args.places.now c.loop-place.place c.index-old-place.result _ c.loop-place.removed.items _ true
          c.loop-place-test.true c.index-old-place.is c.loop-place.invariant (sym w.if-is_gone.true ∙ gone) (rw w.removed-is w.in_ok-push.ensures.items)
      | else-is_gone w ↦
          gone_places-more c.args.old.now c.args.places.now c.loop-place.place c.index-old-place.result _ c.loop-place.removed.items _ false
          c.loop-place-test.true c.index-old-place.is c.loop-place.invariant (sym w.if-is_gone.false ∙ gone) (rw w.removed-is refl)
    ]
