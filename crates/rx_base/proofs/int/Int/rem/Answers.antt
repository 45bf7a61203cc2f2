use Rattle.std.proofs.Common.{◌≡◌, false, sym, ap, ◌∙◌, if◌then◌else◌, pos, rules}
use Rattle.std.specs.Prelude.{FitsSigned, int_rem}
use Rattle.std.specs.Int.{w64}
use Rattle.std.proofs.lemmas.Int.{to_z-of_z}
use Rattle.rx_base.specs.Values.{wrap}
use Rattle.rx_base.specs.Widths.{width_of}
use Rattle.rx_base.specs.Arithmetic.{is_zero}
use Rattle.rx_base.proofs.int.Int.rem.Goals as goal

pub returns : goal.returns
returns c =
    let left : FitsSigned w64 c.left.inside.bits = search rules in
    let right : FitsSigned w64 c.right.inside.bits = search rules in
    let wrapped = wrap (width_of c.args.width) in
    let some : is_zero c.args.right ≡ false = search rules in
    c.wrapped.ensures ∙ ap wrapped (to_z-of_z w64 _ (record { sfits = c.wrapping_rem.type_inv }) ∙ c.wrapping_rem.ensures)
    ∙ (λ i. wrapped (int_rem (to_z-of_z w64 _ left i) (to_z-of_z w64 _ right i)))
    ∙ (λ i. wrapped (int_rem (c.left.view_is i) (c.right.view_is i)))
    ∙ sym (ap (λ b. if b then pos 0 else wrapped (int_rem c.args.left c.args.right)) some)
