use Rattle.std.proofs.Common.{◌≡◌, ◌∙◌, ◌<◌, ap, sym, arith}
use Rattle.std.specs.Prelude.{List, ℕ, bytes_eq}
use Rattle.std.specs.List.{position_from}
use Rattle.std.specs.Map.{lookup}
use Rattle.std.specs.HashMap.{get_by_text, spare}
use Rattle.std.specs.String.{string_bytes}
use Rattle.std.proofs.lemmas.Map.Text.{hash_map_updates_text}
use Rattle.rx_names.proofs.Places.{noted, noted-before, on-ok}
use Rattle.rx_names.proofs.names.Names.push.Goals as goal

pub invariant_of-self-then-not-contains_key : goal.invariant_of-self-then-not-contains_key
invariant_of-self-then-not-contains_key c =
    let known : (z : List ℕ) → get_by_text c.reserve.new.self z ≡ position_from (bytes_eq z) 0 c.self.inside.items.items =
    λ z. ap (λ es. lookup (λ k. bytes_eq z (string_bytes k)) es) c.in_ok-reserve.ensures.entries ∙ c.self.invariant z in
    let room : 0 < spare c.reserve.new.self = omega (arith, c.in_ok-reserve.ensures.ok) in
    let updates = on-ok c.insert.result (c.insert.ensures.succeeds room) c.insert.ensures.updates in
    noted (get_by_text c.reserve.new.self) (get_by_text c.insert.new.self) c.self.inside.items.items c.push.new.self.items c.in_ok-item.item (string_bytes c.in_ok-key.key)
    c.args.name.now c.len-place.result known (λ z. hash_map_updates_text (string_bytes c.in_ok-key.key) c.reserve.new.self c.insert.new.self _ updates z) c.in_ok-key.ensures.ok c.in_ok-item.ensures (omega arith)
    c.in_ok-push.ensures.items
    (sym c.contains_key.ensures ∙ c.if-not-contains_key.true)

pub invariant_of-self-else-not-contains_key : goal.invariant_of-self-else-not-contains_key
invariant_of-self-else-not-contains_key c =
    let known : (z : List ℕ) → get_by_text c.reserve.new.self z ≡ position_from (bytes_eq z) 0 c.self.inside.items.items =
    λ z. ap (λ es. lookup (λ k. bytes_eq z (string_bytes k)) es) c.in_ok-reserve.ensures.entries ∙ c.self.invariant z in
    noted-before (get_by_text c.reserve.new.self) c.self.inside.items.items c.push.new.self.items c.in_ok-item.item c.args.name.now known c.in_ok-item.ensures c.in_ok-push.ensures.items
    (sym c.contains_key.ensures ∙ c.if-not-contains_key.false)
