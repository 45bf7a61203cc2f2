use Rattle.std.proofs.Common.{◌∙◌, ◌<◌, ap, arith, length}
use Rattle.std.specs.Prelude.{slice_index}
use Rattle.std.proofs.lemmas.Option.{slice_get_within}
use Rattle.rx_ast.specs.Syntax.{functions}
use Rattle.rx_figures.specs.Costs.{body_cost}
use Rattle.rx_figures.proofs.Ordered.{costs-more, costs-none}
use Rattle.rx_figures.proofs.costs.finish.Goals as goal

pub returns-in-None-clause-more : goal.returns-in-None-clause-more
returns-in-None-clause-more c =
    λ done h r. costs-none c.args.program.now c.args.costs.now.items done c.args.number h c.in-None.ensures c.requires

pub returns-in-Some-clause-more : goal.returns-in-Some-clause-more
returns-in-Some-clause-more c =
    let p = c.args.program.now in
    let inside : c.args.number < length (functions p) = slice_get_within (functions p) c.args.number _ c.in-Some.ensures in
    λ done h r.
    costs-more p c.args.costs.now.items done c.args.number c.in-Some.inner.now c.function-found.result h r c.in-Some.ensures (omega (arith, inside, c.requires))
    (c.function-found.ensures ∙ ap (λ t. body_cost (slice_index t) p c.in-Some.inner.now) c.as_slice.ensures.value)
