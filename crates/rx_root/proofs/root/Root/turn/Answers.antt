use Rattle.std.proofs.Common.{◌≤◌, ◌+◌, subst}
use Rattle.rx_ast.specs.Syntax.{Program}
use Rattle.rx_model.specs.Turns.{unit_bound}
use Rattle.rx_root.specs.contracts.root.Root.{the_view}
use Rattle.rx_root.proofs.Broken.{broken_leaves, turn_breaks}
use Rattle.rx_root.proofs.FlushSteps.{turn_leaves}
use Rattle.rx_root.proofs.root.Root.turn.Goals as goal

pub returns-in-Ok-clause-leaves : goal.returns-in-Ok-clause-leaves
returns-in-Ok-clause-leaves g c =
    let is = c.requires.stands in
    turn_leaves is.program is.state c.args.budget c.args.self.now c.try_turn.new.self c.args.log.now c.try_turn.new.log c.args.steps.now c.try_turn.new.steps c.facts.ensures.bounded is.stands
    is.between (c.in-Ok.ensures.takes is.program is.state is.stands is.between)

pub returns-in-Err-clause-breaks : goal.returns-in-Err-clause-breaks
returns-in-Err-clause-breaks g c = λ p s h none.
    let few = subst (λ (q : Program). c.try_turn.new.steps ≤ c.args.steps.now + unit_bound q) h.program c.try_turn.ensures.few in
    turn_breaks p s c.try_turn.new.self (the_view c.self.inside) c.discard.new.self c.args.log.now c.try_turn.new.log c.args.steps.now c.try_turn.new.steps c.self.view_is
    (c.in-Err.ensures.broken p s h none) c.discard.ensures c.try_turn.ensures.rises few

pub returns-in-Err-clause-leaves : goal.returns-in-Err-clause-leaves
returns-in-Err-clause-leaves g c =
    let is = c.requires.stands in
    broken_leaves is.program is.state c.args.self.now _ c.args.log.now c.try_turn.new.log c.args.steps.now c.try_turn.new.steps is.stands (returns-in-Err-clause-breaks g c is.program is.state is.stands is.between)
