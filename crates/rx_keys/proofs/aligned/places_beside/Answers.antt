use Rattle.std.proofs.Common.{◌∙◌, refl, take}
use Rattle.rx_elem.specs.Elements.{key_of}
use Rattle.rx_elem.specs.Identity.{identity_after}
use Rattle.rx_keys.proofs.Matches.{all_places, more_places, then_some-cond}
use Rattle.rx_keys.proofs.SameKeys.{beside_at}
use Rattle.rx_keys.proofs.aligned.places_beside.Goals as goal

pub loop-place-preserved : goal.loop-place-preserved
loop-place-preserved c =
    let old = c.args.old.now in
    let new = c.args.new.now in
    let place = c.loop-place.place in
    let child = c.index-new-place.result in
    more_places old new place (identity_after (take place new) (key_of child)) child _ c.loop-place.places.items _ c.then_some.result c.loop-place-test.true c.index-new-place.is c.loop-place.invariant refl
    (c.then_some.ensures
    ∙ then_some-cond c.is_same_kind-is_same.result place
    ∙ beside_at old new place child c.index-old-place.result c.is_same_kind-is_same.result c.requires.keys c.loop-place-test.true c.index-new-place.is c.index-old-place.is c.is_same_kind-is_same.ensures)
    c.in_ok-push.ensures.items

pub returns : goal.returns
returns c = all_places c.args.old.now c.args.new.now c.loop-place.place _ c.loop-place.places.items c.loop-place-test.false c.loop-place.invariant
