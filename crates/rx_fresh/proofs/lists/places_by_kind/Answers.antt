use Rattle.std.proofs.Common.{◌∙◌, refl, take, arith}
use Rattle.rx_elem.specs.Elements.{key_of}
use Rattle.rx_elem.specs.Identity.{identity_after}
use Rattle.rx_elem.specs.Trees.{elements_in, forest}
use Rattle.rx_compare.specs.Matched.{element_at}
use Rattle.rx_keys.proofs.Matches.{all_places, more_places, then_some-cond}
use Rattle.rx_keys.proofs.SameKeys.{beside_at, length-keys}
use Rattle.rx_node.proofs.Listing.{length-elements_in}
use Rattle.rx_fresh.proofs.Listing.{element_there}
use Rattle.rx_fresh.proofs.lists.places_by_kind.Goals as goal

pub bounds-old-place : goal.bounds-old-place
bounds-old-place c = omega (arith, c.loop-place-test.true, length-keys (elements_in (forest c.args.old.now)) c.args.new.now c.requires.keys, length-elements_in c.args.old.now)

pub loop-place-preserved : goal.loop-place-preserved
loop-place-preserved c =
    let old = elements_in (forest c.args.old.now) in
    let new = c.args.new.now in
    let place = c.loop-place.place in
    let child = c.index-new-place.result in
    more_places old new place (identity_after (take place new) (key_of child)) child _ c.loop-place.places.items _ c.then_some.result c.loop-place-test.true c.index-new-place.is c.loop-place.invariant refl
    (c.then_some.ensures
    ∙ then_some-cond c.is_same_at-is_same.result place
    ∙ beside_at old new place child (element_at c.index-old-place.result) c.is_same_at-is_same.result c.requires.keys c.loop-place-test.true c.index-new-place.is (element_there c.args.old.now place c.index-old-place.result c.index-old-place.is) c.is_same_at-is_same.ensures)
    c.in_ok-push.ensures.items

pub returns : goal.returns
returns c = all_places (elements_in (forest c.args.old.now)) c.args.new.now c.loop-place.place _ c.loop-place.places.items c.loop-place-test.false c.loop-place.invariant
