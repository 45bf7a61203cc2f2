use Rattle.std.proofs.Common.{rules, ◌≡◌, ◌∙◌, Some, None, slice_get, sym, ap}
use Rattle.rx_set.proofs.Holding.{not_some, only_some}
use Rattle.rx_set.proofs.Noting.{misplaced, unnoted}
use Rattle.rx_set.specs.Places.{place_in}
use Rattle.rx_set.specs.Sets.{holds}
use Rattle.rx_set.proofs.set.NumberSet.find.Goals as goal

pub returns-in_err-place-clause-none : goal.returns-in_err-place-clause-none
returns-in_err-place-clause-none c e =
    let none : place_in c.self.inside.members.items c.self.inside.places c.args.number ≡ None = search rules in
    ap (λ l. holds l c.args.number) (sym c.self.view_is) ∙ unnoted (place_in c.self.inside.members.items c.self.inside.places) c.self.inside.members.items c.self.invariant c.args.number none

pub returns-then-eq-clause-some : goal.returns-then-eq-clause-some
returns-then-eq-clause-some c =
    ap (λ l. slice_get l c.in_ok-place.place) (sym c.self.view_is ∙ sym c.deref-2.ensures.value) ∙ sym c.number_at.ensures
    ∙ only_some c.number_at.result c.args.number (sym c.eq.ensures ∙ c.if-eq.true)

pub returns-clause-none : goal.returns-clause-none
returns-clause-none c e =
    let placed : place_in c.self.inside.members.items c.self.inside.places c.args.number ≡ Some c.in_ok-place.place = search rules in
    ap (λ l. holds l c.args.number) (sym c.self.view_is)
    ∙ misplaced (place_in c.self.inside.members.items c.self.inside.places) c.self.inside.members.items c.self.invariant c.args.number c.in_ok-place.place placed
    (λ at. not_some c.number_at.result c.args.number (sym c.eq.ensures ∙ c.if-eq.false)
    (c.number_at.ensures ∙ ap (λ l. slice_get l c.in_ok-place.place) c.deref-2.ensures.value ∙ at))
