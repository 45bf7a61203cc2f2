use Rattle.std.proofs.Common.{refl, subst, arith}
use Rattle.choice_laws.specs.Choosing.{Fit}
use Rattle.choice_laws.specs.Telling.{AreShown}
use Rattle.rx_verify.proofs.Telling.{same-told}
use Rattle.rx_verify.proofs.ends.end_told.Goals as goal

pub returns-in_default-clause-none : goal.returns-in_default-clause-none
returns-in_default-clause-none c = λ p g d used bound fit tells.
    let found = rw c.in-Some.is at c.in_ok-counts.ensures.found in
    let shown : AreShown d = record { units = omega (arith, fit.in_bound, bound, c.ranges.bound.fits); bodies = omega (arith, fit.in_bound, fit.fewer_bodies, bound, c.ranges.bound.fits) } in
    let same = same-told c.finishes_tell.ensures.told c.finishes_tell.ensures.last _ d _ _ shown c.fits.ensures.shown tells.tells found in
    c.if-fits.ensures.not refl p g used bound (subst (Fit p g c.args.slice) same fit)

pub returns-in_default-2-clause-none : goal.returns-in_default-2-clause-none
returns-in_default-2-clause-none c = λ p g d used bound fit tells.
    let none = rw c.in_default.is at c.in_ok-counts.ensures.none in
    none d.units d.bodies (omega (arith, fit.in_bound, bound, c.ranges.bound.fits)) (omega (arith, fit.in_bound, fit.fewer_bodies, bound, c.ranges.bound.fits)) tells
