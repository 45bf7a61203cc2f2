use Rattle.std.proofs.Common.{inr, is_some, sym, ap, ◌∙◌}
use Rattle.rx_read.specs.Places.{mark_in}
use Rattle.rx_read.proofs.Links.{by_value}
use Rattle.rx_beside.proofs.Here.{is_node, stands_at}
use Rattle.rx_beside.proofs.places.common_place.Goals as goal

pub returns-then-is_made_for-clause-pair : goal.returns-then-is_made_for-clause-pair
returns-then-is_made_for-clause-pair c =
    let t = c.args.tree.now in
    let old = c.args.pair.now.old in
    let new = c.args.pair.now.new in
    let l = by_value t c.facts.ensures.fits c.facts.ensures.linked old c.value-was.result.now c.requires.old c.value-was.ensures.current c.value-was.ensures.made in
    let k = by_value t c.facts.ensures.fits c.facts.ensures.linked new c.value-is.result.now (inr c.requires.made) c.value-is.ensures.current c.value-is.ensures.made in
    record {
      made = c.requires.made;
      old = c.is_made_for.ensures c.if-is_made_for.true;
      was = is_node t old _ _ _ l.2 c.requires.old (ap (λ s. is_some (mark_in s)) (sym c.stage.ensures) ∙ sym c.is_begun.ensures ∙ c.if-is_begun.true);
      is = is_node t new _ _ _ k.2 (inr c.requires.made) (ap (λ s. is_some (mark_in s)) (sym c.stage-then-is_begun.ensures) ∙ sym c.is_begun-then-is_begun.ensures ∙ c.if-is_begun-2.true);
    }

pub returns-then-is_made_for-clause-stand : goal.returns-then-is_made_for-clause-stand
returns-then-is_made_for-clause-stand c =
    let t = c.args.tree.now in
    let old = c.args.pair.now.old in
    let new = c.args.pair.now.new in
    let place = c.place-place.result in
    let l = by_value t c.facts.ensures.fits c.facts.ensures.linked old c.value-was.result.now c.requires.old c.value-was.ensures.current c.value-was.ensures.made in
    let k = by_value t c.facts.ensures.fits c.facts.ensures.linked new c.value-is.result.now (inr c.requires.made) c.value-is.ensures.current c.value-is.ensures.made in
    record {
      old = stands_at t old _ _ _ l.2 place (sym c.if-place.true ∙ c.place.ensures) (ap (λ s. is_some (mark_in s)) (sym c.stage.ensures) ∙ sym c.is_begun.ensures ∙ c.if-is_begun.true);
      new = stands_at t new _ _ _ k.2 place c.place-place.ensures (ap (λ s. is_some (mark_in s)) (sym c.stage-then-is_begun.ensures) ∙ sym c.is_begun-then-is_begun.ensures ∙ c.if-is_begun-2.true);
    }
