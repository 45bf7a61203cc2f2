use Rattle.std.proofs.Common.{sym, ap, ◌∙◌}
use Rattle.rx_ast.specs.Syntax.{slots, inner_slots}
use Rattle.rx_ast.specs.SlotView.{element_of}
use Rattle.rx_ast.proofs.Lists.{slots-slots_of, inner_slots-tagged}
use Rattle.rx_ast.proofs.slot.Element.children.Goals as goal

pub returns-in-Children : goal.returns-in-Children
returns-in-Children c =
    c.deref.ensures.value
    ∙ (sym (slots-slots_of _)
    ∙ (ap slots (sym (inner_slots-tagged c.self.inside.tag _ _))
    ∙ (ap (λ k. slots (inner_slots (element_of c.self.inside.tag k))) (sym c.in-Children.is)
    ∙ ap (λ s. slots (inner_slots s)) c.self.view_is)))
