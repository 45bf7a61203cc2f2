use Rattle.std.proofs.Common.{ap, ◌∙◌, rules}
use Rattle.std.specs.Prelude.{FitsSigned, neg_ℤ}
use Rattle.std.specs.Int.{w64, int_wrapping_neg}
use Rattle.std.proofs.lemmas.Int.{to_z-of_z}
use Rattle.rx_base.specs.Values.{wrap}
use Rattle.rx_base.specs.Widths.{width_of}
use Rattle.rx_base.proofs.Wrapping.{neg_wraps}
use Rattle.rx_base.proofs.int.Int.neg.Goals as goal

pub returns : goal.returns
returns c =
    let value : FitsSigned w64 c.value.inside.bits = search rules in
    let wrapped = wrap (width_of c.args.width) in
    c.wrapped.ensures ∙ ap wrapped (to_z-of_z w64 _ (record { sfits = c.wrapping_neg.type_inv }) ∙ c.wrapping_neg.ensures)
    ∙ ap (λ x. wrapped (int_wrapping_neg w64 x)) (to_z-of_z w64 _ value) ∙ neg_wraps c.args.width _ value ∙ ap (λ x. wrapped (neg_ℤ x)) c.value.view_is
