use Rattle.std.proofs.Common.{◌≡◌, false, sym, ap, ◌∙◌, if◌then◌else◌, pos, rules}
use Rattle.std.specs.Prelude.{FitsSigned, int_div}
use Rattle.std.specs.Int.{w64, int_wrapping_div}
use Rattle.std.proofs.lemmas.Int.{to_z-of_z}
use Rattle.rx_base.specs.Values.{wrap}
use Rattle.rx_base.specs.Widths.{width_of}
use Rattle.rx_base.specs.Arithmetic.{is_zero}
use Rattle.rx_base.proofs.Wrapping.{div_wraps}
use Rattle.rx_base.proofs.int.Int.div.Goals as goal

pub returns : goal.returns
returns c =
    let left : FitsSigned w64 c.left.inside.bits = search rules in
    let right : FitsSigned w64 c.right.inside.bits = search rules in
    let wrapped = wrap (width_of c.args.width) in
    let some : is_zero c.args.right ≡ false = search rules in
    c.wrapped.ensures ∙ ap wrapped (to_z-of_z w64 _ (record { sfits = c.wrapping_div.type_inv }) ∙ c.wrapping_div.ensures)
    ∙ (λ i. wrapped (int_wrapping_div w64 (to_z-of_z w64 _ left i) (to_z-of_z w64 _ right i)))
    ∙ div_wraps c.args.width _ _ left ∙ (λ i. wrapped (int_div (c.left.view_is i) (c.right.view_is i)))
    ∙ sym (ap (λ b. if b then pos 0 else wrapped (int_div c.args.left c.args.right)) some)
