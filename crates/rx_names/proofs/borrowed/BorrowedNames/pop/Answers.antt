use Rattle.std.proofs.Common.{◌≡◌, ◌∙◌, sym, arith, false, true, length}
use Rattle.std.proofs.lemmas.Map.Text.{hash_map_updates_str}
use Rattle.rx_names.proofs.Texts.{texts, place_in, length-texts, texts-push}
use Rattle.rx_names.proofs.Places.{dropped, dropped-kept, some-equal, equal-some}
use Rattle.rx_names.proofs.borrowed.BorrowedNames.pop.Goals as goal

pub invariant_of-self : goal.invariant_of-self
invariant_of-self c =
    let one = texts-push c.pop.new.self.items c.self.inside.items.items c.in-Some.name c.in-Some.ensures.items in
    let place : c.len.result ≡ length (texts c.pop.new.self.items) = omega (arith, length-texts c.pop.new.self.items) in
    dropped (place_in c.self.inside.places) (place_in c.swap_remove.new.self) (texts c.pop.new.self.items) (texts c.self.inside.items.items) c.in-Some.name.now c.len.result c.self.invariant
    (λ z. hash_map_updates_str c.in-Some.name.now c.self.inside.places c.swap_remove.new.self _ c.swap_remove.ensures.updates z) one place
    (sym c.get.ensures.value ∙ (sym c.copied.ensures ∙ some-equal c.copied.result c.len.result (sym c.eq.ensures ∙ c.if-eq.true)))

pub invariant_of-self-else-eq : goal.invariant_of-self-else-eq
invariant_of-self-else-eq c =
    let one = texts-push c.pop.new.self.items c.self.inside.items.items c.in-Some.name c.in-Some.ensures.items in
    let place : c.len.result ≡ length (texts c.pop.new.self.items) = omega (arith, length-texts c.pop.new.self.items) in
    dropped-kept (place_in c.self.inside.places) (texts c.pop.new.self.items) (texts c.self.inside.items.items) c.in-Some.name.now c.len.result c.self.invariant one place
    (λ h. let bad : false ≡ true = sym c.if-eq.false ∙ (c.eq.ensures ∙ equal-some c.copied.result c.len.result (c.copied.ensures ∙ (c.get.ensures.value ∙ h))) in cc)
