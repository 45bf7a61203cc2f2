use Rattle.std.proofs.Common.{◌∙◌, ◌<◌, ap, arith, length}
use Rattle.std.specs.Prelude.{Some}
use Rattle.std.proofs.lemmas.Option.{slice_get_within}
use Rattle.rx_ast.specs.Syntax.{components}
use Rattle.rx_rules.specs.Bounds.{body_if}
use Rattle.rx_figures.specs.Figures.{figures, known_in}
use Rattle.rx_figures.proofs.Ordered.{figures-more, figures-none}
use Rattle.rx_figures.proofs.figures.finish.Goals as goal

pub returns-in-None-clause-more : goal.returns-in-None-clause-more
returns-in-None-clause-more c =
    λ done h r. figures-none c.args.program.now c.args.table.now.items done c.args.number h c.in-None.ensures c.requires

pub returns-in-Some-clause-more : goal.returns-in-Some-clause-more
returns-in-Some-clause-more c =
    let p = c.args.program.now in
    let inside : c.args.number < length (components p) = slice_get_within (components p) c.args.number _ c.in-Some.ensures in
    λ done h r.
    figures-more p c.args.table.now.items done c.args.number c.in-Some.inner.now c.component-found.result h r c.in-Some.ensures (omega (arith, inside, c.requires))
    (c.component-found.ensures ∙ ap (λ t. body_if (figures p) (known_in t) p (Some c.in-Some.inner.now)) c.as_slice.ensures.value)
