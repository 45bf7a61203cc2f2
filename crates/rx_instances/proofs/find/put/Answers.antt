use Rattle.std.proofs.Common.{◌≡◌, true, sym, ◌∙◌, subst}
use Rattle.std.proofs.lemmas.Bool.{or_left, or_right}
use Rattle.std.proofs.lemmas.Option.{none-some}
use Rattle.rx_ways.specs.Ways.{is_way}
use Rattle.rx_ways.specs.Walk.{hinted}
use Rattle.rx_instances.proofs.Walking.{number_found, told_number}
use Rattle.rx_instances.proofs.find.put.Goals as goal

pub returns-in_default-clause-here : goal.returns-in_default-clause-here
returns-in_default-clause-here c x n old e =
    let (f, is, number) = told_number c.args.tree.now.current c.args.id n x c.value.result.now old (c.value.ensures.current c.requires) e in
    absurd (none-some f (sym c.in_default.is ∙ c.told.ensures ∙ is))

pub returns-then-not-has-clause-here : goal.returns-then-not-has-clause-here
returns-then-not-has-clause-here c x n old e =
    let number = number_found c.args.tree.now.current c.args.id n x c.value.result.now old (c.value.ensures.current c.requires) e c.in-Some.found (sym c.in-Some.is ∙ c.told.ensures) in
    subst (λ k. hinted c.args.known.now c.add.new.self k ≡ true) number
    (or_right (is_way c.args.known.now c.in-Some.found.number) (is_way c.add.new.self c.in-Some.found.number) c.add.ensures.here)

pub returns-else-not-has-clause-here : goal.returns-else-not-has-clause-here
returns-else-not-has-clause-here c x n old e =
    let number = number_found c.args.tree.now.current c.args.id n x c.value.result.now old (c.value.ensures.current c.requires) e c.in-Some.found (sym c.in-Some.is ∙ c.told.ensures) in
    subst (λ k. hinted c.args.known.now c.args.sent.now k ≡ true) number
    (or_left (is_way c.args.known.now c.in-Some.found.number) (is_way c.args.sent.now c.in-Some.found.number) (sym c.has.ensures ∙ c.if-not-has.false))
