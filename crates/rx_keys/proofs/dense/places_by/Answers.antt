use Rattle.std.proofs.Common.{◌≡◌, ◌+◌, ◌++◌, refl, length, take, drop, sym, subst, arith, rules}
use Rattle.std.proofs.lemmas.List.{length-take, take_at}
use Rattle.rx_elem.specs.Elements.{key_of}
use Rattle.rx_elem.specs.Identity.{identity_after}
use Rattle.rx_keys.specs.Dense.{FindsNext}
use Rattle.rx_keys.proofs.Counting.{back}
use Rattle.rx_keys.proofs.Matches.{more_places, all_places}
use Rattle.rx_keys.proofs.dense.places_by.Goals as goal

pub of_same_kind-requires : goal.of_same_kind-requires
of_same_kind-requires c =
    let new = c.args.new.now in
    let place = c.loop-place.place in
    let size : length (take place new) ≡ place = omega (arith, c.loop-place-test.true, length-take place new) in
    let next : FindsNext c.args.old.now c.deref_mut.result.now (take place new) =
    subst (λ ps. FindsNext c.args.old.now ps (take place new)) (sym c.deref_mut.ensures.value) c.loop-place.invariant.1 in
    (identity_after (take place new) (key_of c.index-new-place.result), c.find_next-found.ensures.found (take place new) size next)

pub loop-place-preserved : goal.loop-place-preserved
loop-place-preserved c =
    let old = c.args.old.now in
    let new = c.args.new.now in
    let place = c.loop-place.place in
    let child = c.index-new-place.result in
    let size : length (take place new) ≡ place = omega (arith, c.loop-place-test.true, length-take place new) in
    let next : FindsNext old c.deref_mut.result.now (take place new) =
    subst (λ ps. FindsNext old ps (take place new)) (sym c.deref_mut.ensures.value) c.loop-place.invariant.1 in
    let id = identity_after (take place new) (key_of child) in
    let long : length c.find_next-found.new.table ≡ c.loop-place.table.len = search rules in
    let whole : take c.loop-place.table.len (c.find_next-found.new.table ++ drop (length c.find_next-found.new.table) c.loop-place.table.items) ≡ c.find_next-found.new.table =
    take_at c.find_next-found.new.table _ c.loop-place.table.len long in (
      more_places old new place id child _ c.loop-place.places.items _ c.of_same_kind.result c.loop-place-test.true c.index-new-place.is c.loop-place.invariant.0 refl
          (c.of_same_kind.ensures id (c.find_next-found.ensures.found (take place new) size next))
          c.in_ok-push.ensures.items,
      subst (λ ps. FindsNext old ps (take (place + 1) new)) (sym whole)
          (subst (FindsNext old c.find_next-found.new.table) (sym (back new place child c.loop-place-test.true c.index-new-place.is))
          (c.find_next-found.ensures.next (take place new) next)),
    )

pub returns : goal.returns
returns c = all_places c.args.old.now c.args.new.now c.loop-place.place _ c.loop-place.places.items c.loop-place-test.false c.loop-place.invariant.0
