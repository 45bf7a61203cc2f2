use Rattle.std.proofs.Common.{◌≡◌, ◌∙◌, ◌<◌, sym, refl, arith, length}
use Rattle.std.specs.HashMap.{spare}
use Rattle.std.proofs.lemmas.Map.Text.{hash_map_updates_str}
use Rattle.rx_names.proofs.Texts.{texts, place_in, length-texts, texts-push, places-kept}
use Rattle.rx_names.proofs.Places.{noted, noted-before, on-ok}
use Rattle.rx_names.proofs.borrowed.BorrowedNames.push.Goals as goal

pub invariant_of-self-then-not-contains_key : goal.invariant_of-self-then-not-contains_key
invariant_of-self-then-not-contains_key c =
    let known = places-kept c.self.inside.places c.reserve.new.self (texts c.self.inside.items.items) c.in_ok-reserve.ensures.entries c.self.invariant in
    let more = texts-push c.self.inside.items.items c.push.new.self.items c.args.name c.in_ok-push.ensures.items in
    let place : c.len-place.result ≡ length (texts c.self.inside.items.items) = omega (arith, length-texts c.self.inside.items.items) in
    let room : 0 < spare c.reserve.new.self = omega (arith, c.in_ok-reserve.ensures.ok) in
    let updates = on-ok c.insert.result (c.insert.ensures.succeeds room) c.insert.ensures.updates in
    noted (place_in c.reserve.new.self) (place_in c.insert.new.self) (texts c.self.inside.items.items) (texts c.push.new.self.items) c.args.name.now c.args.name.now c.args.name.now c.len-place.result
    known (λ z. hash_map_updates_str c.args.name.now c.reserve.new.self c.insert.new.self _ updates z) refl refl place more
    (sym c.contains_key.ensures ∙ c.if-not-contains_key.true)

pub invariant_of-self-else-not-contains_key : goal.invariant_of-self-else-not-contains_key
invariant_of-self-else-not-contains_key c =
    let known = places-kept c.self.inside.places c.reserve.new.self (texts c.self.inside.items.items) c.in_ok-reserve.ensures.entries c.self.invariant in
    let more = texts-push c.self.inside.items.items c.push.new.self.items c.args.name c.in_ok-push.ensures.items in
    noted-before (place_in c.reserve.new.self) (texts c.self.inside.items.items) (texts c.push.new.self.items) c.args.name.now c.args.name.now known refl more
    (sym c.contains_key.ensures ∙ c.if-not-contains_key.false)
