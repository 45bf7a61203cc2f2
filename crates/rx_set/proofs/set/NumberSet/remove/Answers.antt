use Rattle.std.proofs.Common.{◌∙◌, false, cond, nat_eq, slice_get, sym, ap}
use Rattle.rx_set.specs.Places.{place_in}
use Rattle.rx_set.specs.Sets.{holds}
use Rattle.rx_set.proofs.Holding.{holds_at}
use Rattle.rx_set.proofs.Noting.{gone, holds_less}
use Rattle.rx_set.proofs.set.NumberSet.remove.Goals as goal

pub returns-clause-was : goal.returns-clause-was
returns-clause-was c = sym (holds_at c.args.self.now c.in-Some.place c.args.number c.in-Some.ensures.some)

pub returns-clause-holds : goal.returns-clause-holds
returns-clause-holds c n =
    let at = ap (λ l. slice_get l c.in-Some.place) c.self.view_is ∙ c.in-Some.ensures.some in
    holds_less c.self.inside.members.items c.take_out.new.members.items c.args.number c.take_out.ensures.rest
    (gone (place_in c.self.inside.members.items c.self.inside.places) c.self.inside.members.items c.self.invariant c.take_out.new.members.items c.args.number c.in-Some.place at c.take_out.ensures) n
    ∙ ap (λ l. cond (nat_eq c.args.number n) false (holds l n)) c.self.view_is
