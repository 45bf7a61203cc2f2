use Rattle.std.proofs.Common.{◌∷◌, ◌+◌, ◌∙◌, drop, false, ap, sym, subst, arith}
use Rattle.rx_elem.specs.Trees.{forest, elements_in}
use Rattle.rx_elem.specs.Compare.{Past, pasts}
use Rattle.rx_compare.specs.InPlace.{AreInPlace}
use Rattle.rx_compare.specs.Matched.{IsMatched}
use Rattle.rx_compare.specs.Pairs.{IsPairing}
use Rattle.rx_compare.proofs.Comparing.{length-places, length-moved, pasts-front}
use Rattle.rx_compare.proofs.InPlaceLists.{in_place-length, in_place-front}
use Rattle.rx_compare.proofs.pairing.Pairing.past.Goals as goal

pub bounds-old-place : goal.bounds-old-place
bounds-old-place c =
    let new = c.requires.0 in
    let beside : AreInPlace (forest c.args.old.now) (forest new) = subst (IsPairing (forest c.args.old.now) (forest new)) c.in-InPlace.is c.requires.1.0 in
    omega (arith, in_place-length c.args.old.now new beside, c.requires.1.1)

pub offset_bounds-old-place : goal.offset_bounds-old-place
offset_bounds-old-place c =
    let new = c.requires.0 in
    let beside : AreInPlace (forest c.args.old.now) (forest new) = subst (IsPairing (forest c.args.old.now) (forest new)) c.in-InPlace.is c.requires.1.0 in
    omega (arith, in_place-length c.args.old.now new beside, c.requires.1.1, c.well_formed)

pub index-requires : goal.index-requires
index-requires c =
    let new = c.requires.0 in
    let beside : IsMatched (forest c.args.old.now) (elements_in (forest new)) c.in-Matched.matching = subst (IsPairing (forest c.args.old.now) (forest new)) c.in-Matched.is c.requires.1.0 in
    omega (arith, length-places (forest c.args.old.now) new c.in-Matched.matching beside, c.requires.1.1, c.in-Matched.matching.places.ok.0)

pub index-requires-in-Matched : goal.index-requires-in-Matched
index-requires-in-Matched c =
    let new = c.requires.0 in
    let beside : IsMatched (forest c.args.old.now) (elements_in (forest new)) c.in-Matched.matching = subst (IsPairing (forest c.args.old.now) (forest new)) c.in-Matched.is c.requires.1.0 in
    omega (arith, length-moved (forest c.args.old.now) new c.in-Matched.matching beside, c.requires.1.1, c.in-Matched.matching.moved.ok.0)

pub returns-in-InPlace : goal.returns-in-InPlace
returns-in-InPlace c new is within =
    let old = c.args.old.now in
    let k = c.args.place in
    let beside : AreInPlace (forest old) (forest new) = subst (IsPairing (forest old) (forest new)) c.in-InPlace.is is in
    in_place-front old new k c.index-old-place.result beside (omega (arith, in_place-length old new beside, within)) c.index-old-place.is
    ∙ ap (λ o. (let p : Past = record { old = o; moved = false } in p) ∷ drop (k + 1) (pasts (forest old) (elements_in (forest new)))) (sym c.as_ref.ensures.value)

pub returns-in-Matched : goal.returns-in-Matched
returns-in-Matched c new is within =
    let old = forest c.args.old.now in
    let k = c.args.place in
    let m = c.in-Matched.matching in
    let beside : IsMatched old (elements_in (forest new)) m = subst (IsPairing old (forest new)) c.in-Matched.is is in
    pasts-front old (elements_in (forest new)) m k c.index.result.now c.index-in-Matched.result.now beside
    (omega (arith, length-places old new m beside, within)) (omega (arith, length-moved old new m beside, within)) c.index.ensures c.index-in-Matched.ensures
    ∙ ap (λ o. (let p : Past = record { old = o; moved = c.index-in-Matched.result.now } in p) ∷ drop (k + 1) (pasts old (elements_in (forest new)))) (sym c.node_at.ensures)
