use Rattle.std.proofs.Common.{◌∙◌, sym}
use Rattle.std.specs.Cmp.Lexicographic.{pointwise}
use Rattle.std.specs.Cmp.Rules.{signed_items}
use Rattle.std.specs.Ordering.{int_eq}
use Rattle.rx_beside.proofs.marks.are_same.Goals as goal

pub returns : goal.returns
returns c same =
    (signed_items c.args.old.now c.args.new.now).0
    (sym (c.eq.ensures ∙ (λ i. pointwise int_eq (c.as_slice.ensures i) (c.as_slice-2.ensures i))) ∙ same)
