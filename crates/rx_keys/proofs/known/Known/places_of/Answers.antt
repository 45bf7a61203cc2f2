use Rattle.std.proofs.Common.{◌≡◌, length, take, sym, subst, arith}
use Rattle.std.proofs.lemmas.List.{length-take}
use Rattle.rx_keys.specs.Found.{CountsKeys}
use Rattle.rx_keys.specs.IdentityView.{identity_seen}
use Rattle.rx_keys.proofs.Counting.{back}
use Rattle.rx_keys.proofs.Matches.{more_places, all_places}
use Rattle.rx_keys.proofs.known.Known.places_of.Goals as goal

pub loop-place-preserved : goal.loop-place-preserved
loop-place-preserved c =
    let new = c.args.children.now in
    let place = c.loop-place.place in
    let child = c.index-children-place.result in
    let size : length (take place new) ≡ place = omega (arith, c.loop-place-test.true, length-take place new) in (
      more_places c.args.self.now.children.now new place (identity_seen c.in_ok-id.id) child _ c.loop-place.places.items _ c.find.result c.loop-place-test.true c.index-children-place.is c.loop-place.invariant.0
          (c.in_ok-id.ensures.identity (take place new) size c.loop-place.invariant.1)
          c.find.ensures c.in_ok-push.ensures.items,
      subst (CountsKeys c.next_identity.new.counts) (sym (back new place child c.loop-place-test.true c.index-children-place.is))
          (c.in_ok-id.ensures.counted (take place new) c.loop-place.invariant.1),
    )

pub returns : goal.returns
returns c = all_places c.args.self.now.children.now c.args.children.now c.loop-place.place _ c.loop-place.places.items c.loop-place-test.false c.loop-place.invariant.0
