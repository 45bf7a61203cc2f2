use Rattle.std.proofs.Common.{is_some, sym, ap, ◌∙◌}
use Rattle.rx_beside.proofs.Standing.{beside_at, took_over, made_some, made_none}
use Rattle.rx_beside.proofs.taking.takes_over.Goals as goal

pub returns-then-not-has_made-clause-taken : goal.returns-then-not-has_made-clause-taken
returns-then-not-has_made-clause-taken c = λ e.
    let t = c.args.tree.now in
    let b = beside_at t c.facts.ensures.fits c.facts.ensures.linked c.args.id c.requires.made in
    took_over t c.args.id b (ap is_some (sym (c.first_child.ensures.made c.requires.made)) ∙ sym c.is_some.ensures ∙ e)
    (sym c.requires.has ∙ c.if-not-has_made.true)

pub returns-then-not-has_made-clause-made : goal.returns-then-not-has_made-clause-made
returns-then-not-has_made-clause-made c = λ e.
    let t = c.args.tree.now in
    let b = beside_at t c.facts.ensures.fits c.facts.ensures.linked c.args.id c.requires.made in
    made_none t c.args.id b (ap is_some (sym (c.first_child.ensures.made c.requires.made)) ∙ sym c.is_some.ensures ∙ e)

pub returns-else-not-has_made-clause-made : goal.returns-else-not-has_made-clause-made
returns-else-not-has_made-clause-made c = λ e.
    let t = c.args.tree.now in
    let b = beside_at t c.facts.ensures.fits c.facts.ensures.linked c.args.id c.requires.made in
    made_some t c.args.id b (sym c.requires.has ∙ c.if-not-has_made.false)
