use Rattle.std.proofs.Common.{◌∙◌, ◌+ℤ◌, rules}
use Rattle.std.specs.Prelude.{FitsSigned}
use Rattle.std.specs.Int.{w64}
use Rattle.rx_base.specs.Values.{wrap}
use Rattle.rx_base.specs.Widths.{width_of}
use Rattle.rx_base.proofs.Wrapping.{add_wraps}
use Rattle.rx_base.proofs.int.Int.add.Goals as goal

pub returns : goal.returns
returns c =
    let left : FitsSigned w64 c.left.inside.bits = search rules in
    let right : FitsSigned w64 c.right.inside.bits = search rules in
    c.wrapped.ensures ∙ add_wraps c.args.width _ _ left right ∙ (λ i. wrap (width_of c.args.width) (c.left.view_is i +ℤ c.right.view_is i))
