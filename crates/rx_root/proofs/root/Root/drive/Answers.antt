use Rattle.std.proofs.Common.{◌+◌, ◌≤◌, sym, subst, arith, Some}
use Rattle.rx_model.specs.Turns.{unit_bound}
use Rattle.rx_root.specs.Rooted.{Rooted}
use Rattle.rx_root.specs.Stands.{StandsWith}
use Rattle.rx_root.specs.contracts.root.Root.{the_view}
use Rattle.rx_root.proofs.DriveEnds.{some_left, driven_as}
use Rattle.rx_render.specs.Turning.{Proceeds, GivesUp}
use Rattle.rx_root.proofs.Broken.{on_err}
use Rattle.rx_root.proofs.TurnsTaken.{on_ok}
use Rattle.rx_root.proofs.root.Root.drive.Goals as goal

pub drive-requires-clause-some : goal.drive-requires-clause-some
drive-requires-clause-some g c =
    let is = c.requires.goes_on in
    some_left is.program is.state is.progress (the_view c.self.inside) c.facts.ensures.bounded
    (subst (λ (v : Rooted). StandsWith is.program is.state (Some is.progress) v) (sym c.self.view_is) is.stands)

pub returns-clause-ends : goal.returns-clause-ends
returns-clause-ends g c =
    driven_as c.drive.result c.args.self.now (the_view c.self.inside) c.drive.new.units c.args.slice c.unwrap_or.result c.is_some.result c.args.steps.now c.drive.new.steps c.self.view_is
    c.facts.ensures.bounded c.unwrap_or.ensures c.is_some.ensures c.drive.ensures.ends c.drive.ensures.counts c.drive.ensures.used c.drive.ensures.each c.drive.ensures.ticks
    c.drive.ensures.onward c.drive.ensures.rises

pub returns-clause-onward : goal.returns-clause-onward
returns-clause-onward g c = on_ok c.drive.result _ _ (λ h. subst (λ (v : Rooted). Proceeds v.rendering c.drive.new.units) c.self.view_is h) c.drive.ensures.onward

pub returns-clause-given_up : goal.returns-clause-given_up
returns-clause-given_up g c = on_err c.drive.result _ _ (λ h. subst (λ (v : Rooted). GivesUp v.rendering c.drive.new.units) c.self.view_is h) c.drive.ensures.given_up

pub returns-clause-few : goal.returns-clause-few
returns-clause-few g c =
    let most : c.drive.new.steps ≤ c.args.steps.now + unit_bound (the_view c.self.inside).rendering.program = omega (arith, c.drive.ensures.within, c.facts.ensures.within) in
    subst (λ (v : Rooted). c.drive.new.steps ≤ c.args.steps.now + unit_bound v.rendering.program) c.self.view_is most
