use Rattle.std.specs.Prelude.{not}
use Rattle.std.proofs.Common.{refl, sym, ap, ◌∙◌}
use Rattle.rx_elem.specs.Elements.{is_present}
use Rattle.rx_fiber.specs.OldLists.{is_fallback}
use Rattle.rx_children.specs.Clones.{passed, vacant, cloned, place_from}
use Rattle.rx_children.proofs.Behind.{clone_is, place_is, place_next}
use Rattle.rx_children.proofs.Making.{null_absent}
use Rattle.rx_children.proofs.clones.clone_next.Goals as goal

pub returns-then-is_fallback-clause-gone : goal.returns-then-is_fallback-clause-gone
returns-then-is_fallback-clause-gone c =
    passed c.value-old.result.now (c.value-old.ensures.current c.requires.held) (ap is_fallback (sym c.stage.ensures) ∙ (sym c.is_fallback.ensures ∙ c.if-is_fallback.true)) refl refl refl

pub returns-then-not-is_present-clause-gone : goal.returns-then-not-is_present-clause-gone
returns-then-not-is_present-clause-gone c =
    vacant c.value-old.result.now (c.value-old.ensures.current c.requires.held) (ap is_fallback (sym c.stage.ensures) ∙ (sym c.is_fallback.ensures ∙ c.if-is_fallback.false))
    (null_absent c.value-old.result.now.element ∙ (ap (λ e. not (is_present e)) (sym c.element-element.ensures) ∙ ap not (sym c.is_present.ensures ∙ c.if-not-is_present.true)))
    refl refl (place_next c.args.so_far.place c.value-old.result.now.place c.place.result c.max-place.result c.in_ok-behind.behind c.place.ensures c.max-place.ensures c.in_ok-behind.ensures)

pub returns-clause-gone : goal.returns-clause-gone
returns-clause-gone c =
    cloned c.value-old.result.now (c.value-old.ensures.current c.requires.held) (ap is_fallback (sym c.stage.ensures) ∙ (sym c.is_fallback.ensures ∙ c.if-is_fallback.false))
    (null_absent c.value-old.result.now.element ∙ (ap (λ e. not (is_present e)) (sym c.element-element.ensures) ∙ ap not (sym c.is_present.ensures ∙ c.if-not-is_present.false)))
    c.in_ok-new.new c.new-fiber.result
    (clone_is c.args.tree.now.current c.args.id (place_from c.args.so_far.place c.value-old.result.now) c.max-place.result c.value-old.result.now c.new-fiber.result c.in_ok-copy.field-0 c.args.visible
    (c.value-old.ensures.current c.requires.held) (c.in_ok-copy.ensures ∙ c.element-element.ensures)
    (place_is c.args.so_far.place c.value-old.result.now.place c.place.result c.max-place.result c.place.ensures c.max-place.ensures) c.new-fiber.ensures)
    c.in_ok-new.ensures.put refl
    (place_next c.args.so_far.place c.value-old.result.now.place c.place.result c.max-place.result c.in_ok-behind.behind c.place.ensures c.max-place.ensures c.in_ok-behind.ensures)
