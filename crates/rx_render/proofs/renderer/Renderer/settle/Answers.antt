use Rattle.std.proofs.Common.{refl, ap, ◌∙◌}
use Rattle.rx_render.specs.contracts.renderer.Renderer.{the_view}
use Rattle.rx_render.proofs.Going.{over_gathered, over_rendering}
use Rattle.rx_render.proofs.Settling.{can_settle, then_settled, then_gone, then_stand_on, then_renders_on}
use Rattle.rx_render.proofs.renderer.Renderer.settle.Goals as goal

pub settle_finished-requires : goal.settle_finished-requires
settle_finished-requires c = can_settle c.args.first c.args.beside.now c.args.self.now (the_view c.self.inside) c.self.view_is c.requires.at_hand

pub invariant_of-self : goal.invariant_of-self
invariant_of-self c = over_rendering (the_view c.self.inside) _ c.self.invariant refl (ap (λ v. v.at) c.self.view_is ∙ c.requires.over) refl
    (over_gathered (the_view c.self.inside) c.self.invariant (ap (λ v. v.at) c.self.view_is ∙ c.requires.over)) c.self.invariant.gathering.1

pub returns-clause-settled : goal.returns-clause-settled
returns-clause-settled c =
    then_settled c.args.first c.args.beside.now c.args.self.now (the_view c.self.inside) c.self.view_is c.settle_finished.result c.settle_finished.new.hooks c.settle_finished.ensures.settled

pub returns-clause-gone : goal.returns-clause-gone
returns-clause-gone c =
    then_gone c.args.first c.args.beside.now c.args.self.now (the_view c.self.inside) c.self.view_is c.settle_finished.result c.settle_finished.new.hooks c.settle_finished.ensures.gone

pub returns-clause-err : goal.returns-clause-err
returns-clause-err c =
    then_stand_on c.args.first c.args.beside.now c.args.self.now (the_view c.self.inside) c.self.view_is c.settle_finished.result c.settle_finished.new.hooks c.settle_finished.ensures.err

pub returns-clause-stays : goal.returns-clause-stays
returns-clause-stays c =
    then_renders_on c.args.first c.args.beside.now c.args.self.now (the_view c.self.inside) c.self.view_is c.settle_finished.result c.settle_finished.new.hooks c.settle_finished.ensures.err
