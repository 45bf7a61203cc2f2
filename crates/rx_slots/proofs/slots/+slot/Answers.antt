use Rattle.std.proofs.Common.{◌≡◌, ◌-◌, List, Some, Ok, refl, sym, ap, ◌∙◌, subst, arith}
use Rattle.std.proofs.lemmas.Result.{err_from_is_err_and}
use Rattle.rx_lex.specs.Spans.{kinds_of}
use Rattle.rx_lex.specs.declared.spans.Rest.{Rest}
use Rattle.rx_lex.specs.declared.token.Kind.{Kind}
use Rattle.rx_lex.specs.declared.token.Sign.TheVariants as sign
use Rattle.rx_ast.specs.Syntax.{Slot, enclosed, parentheses, repeated, slots_of}
use Rattle.rx_grammar.specs.Openings.{opening_of}
use Rattle.rx_grammar.specs.Reading.{sign_at, expr_at, child_at, element_at, slot_inner, slot_at, children_at}
use Rattle.rx_grammar.proofs.Slots.{children_loop}
use Rattle.rx_expression.specs.Results.{Fails, Gives}
use Rattle.rx_slots.specs.Parts.{repetition_at, filled_at}
use Rattle.rx_expression.proofs.Exits.{fails_at, fails_behind, reads_behind}
use Rattle.rx_slots.proofs.Inner.{gives_behind, closed_fails, closed_reads, beside_fails, beside_reads, beside_gives, enclosed_in, repeated_in, enclosed_gives, filled_gives, sides_gives}
use Rattle.rx_expression.proofs.Turns.{end_turned, end_smaller}
use Rattle.rx_slots.proofs.slots.+slot.Goals as goal

abbrev behind_mark : Rest → Unit {0} × List Kind
behind_mark r = (tt, kinds_of r)

abbrev behind_slot : Slot × Rest → Slot × List Kind
behind_slot x = (x.0, kinds_of x.1)

pub children-loop-children-smaller : goal.children-loop-children-smaller
children-loop-children-smaller t c =
    let step : child_at (slot_inner c.args.level) (slot_at c.args.level) (kinds_of c.loop-children.rest) ≡ Ok (Some c.in-Some.child, kinds_of c.in_ok-child.after) =
    c.in_ok-child.ensures ∙ ap (λ o. Ok (o, kinds_of c.in_ok-child.after)) c.in-Some.is in
    end_smaller (children_loop c.args.level) (kinds_of c.loop-children.rest) (kinds_of c.in_ok-child.after) c.in-Some.child step

pub children-loop-children-preserved : goal.children-loop-children-preserved
children-loop-children-preserved t c =
    let step : child_at (slot_inner c.args.level) (slot_at c.args.level) (kinds_of c.loop-children.rest) ≡ Ok (Some c.in-Some.child, kinds_of c.in_ok-child.after) =
    c.in_ok-child.ensures ∙ ap (λ o. Ok (o, kinds_of c.in_ok-child.after)) c.in-Some.is in
    end_turned (children_loop c.args.level) c.loop-children.children.items _ c.in-Some.child (kinds_of c.loop-children.rest) (kinds_of c.in_ok-child.after) _
    step c.in_ok-push.ensures.items c.loop-children.invariant

pub behind_less-returns : goal.behind_less-returns
behind_less-returns t c =
    let after = closed_reads c.in_ok-tag.tag c.in_ok-tag-2.tag c.in_ok-tag-2.rest behind_mark c.expect.result _ (sign_at sign.Greater (kinds_of c.in_ok-tag.rest)) refl c.expect.ensures c.in_ok-tag-2.ensures.ok c.in_ok-tag-2.ensures.err in
    let inner = beside_reads c.in_ok-tag-2.tag c.in_ok-tag-3.tag c.in_ok-tag-3.children c.in_ok-tag-3.rest _ c.children.result _ (children_at c.args.level (kinds_of c.in_ok-tag-2.rest)) refl c.children.ensures c.in_ok-tag-3.ensures.ok c.in_ok-tag-3.ensures.err in
    filled_gives (λ x. (x.0, kinds_of x.1)) c.filled.result c.args.level (kinds_of c.args.rest) (kinds_of c.in_ok-tag.rest) (kinds_of c.in_ok-tag-2.rest) (kinds_of c.in_ok-tag-3.rest) (opening_of c.in_ok-tag.tag) c.in_ok-tag-3.children.items
    c.in_ok-tag.ensures (sym c.next_is.ensures ∙ c.if-next_is.false) after.1 inner.1
    (subst (λ t. Gives (λ x. (x.0, kinds_of x.1)) c.filled.result (filled_at (opening_of t) (slots_of c.in_ok-tag-3.children.items) (kinds_of c.in_ok-tag-3.rest))) (inner.0 ∙ after.0) c.filled.ensures)

pub enclosed-returns-in_err-element-2 : goal.enclosed-returns-in_err-element-2
enclosed-returns-in_err-element-2 t c =
    let p = err_from_is_err_and c.from_residual-in_err-element-2.result c.from_residual-in_err-element-2.ensures.1 in
    let f = closed_fails c.in_ok-element.element behind_mark c.expect-2.result _ (sign_at sign.CloseParen (kinds_of c.in_ok-element.rest)) c.in_err-element-2.field-0.0 refl c.expect-2.ensures c.in_err-element-2.ensures.ok c.in_err-element-2.ensures.err in
    enclosed_gives _ c.from_residual-in_err-element-2.result c.args.level (kinds_of c.args.rest) (kinds_of c.in_ok-rest.rest) (kinds_of c.in_ok-element.rest) c.in_ok-element.element (omega arith) c.in_ok-rest.ensures c.in_ok-element.ensures
    (rw (p.1, p.2) (fails_at c.in_err-element-2.field-0.0 (sign_at sign.CloseParen (kinds_of c.in_ok-element.rest)) _ f))

pub enclosed-returns : goal.enclosed-returns
enclosed-returns t c =
    let g = closed_reads c.in_ok-element.element c.in_ok-element-2.element c.in_ok-element-2.rest behind_mark c.expect-2.result _ (sign_at sign.CloseParen (kinds_of c.in_ok-element.rest)) refl c.expect-2.ensures c.in_ok-element-2.ensures.ok c.in_ok-element-2.ensures.err in
    let slot : enclosed parentheses c.in_ok-element.element ≡ c.enclosed.result = ap (enclosed parentheses) (sym g.0) ∙ sym c.enclosed.ensures in
    enclosed_in c.args.level (kinds_of c.args.rest) (omega arith)
    ∙ reads_behind (sign_at sign.OpenParen (kinds_of c.args.rest)) (tt, kinds_of c.in_ok-rest.rest) _ _ c.in_ok-rest.ensures
    (reads_behind (element_at (slot_inner (c.args.level - 1)) (kinds_of c.in_ok-rest.rest)) (c.in_ok-element.element, kinds_of c.in_ok-element.rest) _ _ c.in_ok-element.ensures
    (reads_behind (sign_at sign.CloseParen (kinds_of c.in_ok-element.rest)) (tt, kinds_of c.in_ok-element-2.rest) _ _ g.1 (ap (λ s. Ok (s, kinds_of c.in_ok-element-2.rest)) slot)))

pub repeated-returns-in_err-index : goal.repeated-returns-in_err-index
repeated-returns-in_err-index t c =
    let p = err_from_is_err_and c.from_residual.result c.from_residual.ensures.1 in
    rw (p.1, p.2) (subst (Fails c.in_err-index.field-0.0) (sym (repeated_in c.args.level (kinds_of c.args.rest) (omega arith))) (fails_at c.in_err-index.field-0.0 (repetition_at (expr_at (c.args.level - 1)) (kinds_of c.args.rest)) _ c.in_err-index.ensures))

pub repeated-returns-in_err-bound : goal.repeated-returns-in_err-bound
repeated-returns-in_err-bound t c =
    let p = err_from_is_err_and c.from_residual-in_err-bound.result c.from_residual-in_err-bound.ensures.1 in
    let e = c.in_err-bound.field-0.0 in
    let f = beside_fails c.in_ok-index.bound behind_slot c.slot.result _ (slot_at (c.args.level - 1) (kinds_of c.in_ok-index.rest)) e refl c.slot.ensures c.in_err-bound.ensures.ok c.in_err-bound.ensures.err in
    rw (p.1, p.2) (subst (Fails e) (sym (repeated_in c.args.level (kinds_of c.args.rest) (omega arith)))
    (fails_behind e (repetition_at (expr_at (c.args.level - 1)) (kinds_of c.args.rest)) _ _ c.in_ok-index.ensures (fails_at e (slot_at (c.args.level - 1) (kinds_of c.in_ok-index.rest)) _ f)))

pub repeated-returns : goal.repeated-returns
repeated-returns t c =
    let g = beside_reads c.in_ok-index.bound c.in_ok-bound.bound c.in_ok-bound.item c.in_ok-bound.rest behind_slot c.slot.result _ (slot_at (c.args.level - 1) (kinds_of c.in_ok-index.rest)) refl c.slot.ensures c.in_ok-bound.ensures.ok c.in_ok-bound.ensures.err in
    let slot : repeated c.in_ok-index.index c.in_ok-index.bound c.in_ok-index.limit c.in_ok-bound.item ≡ c.in_ok-repeated.field-0 = ap (λ b. repeated c.in_ok-index.index b c.in_ok-index.limit c.in_ok-bound.item) (sym g.0) ∙ sym c.in_ok-repeated.ensures in
    repeated_in c.args.level (kinds_of c.args.rest) (omega arith)
    ∙ reads_behind (repetition_at (expr_at (c.args.level - 1)) (kinds_of c.args.rest)) _ _ _ c.in_ok-index.ensures
    (reads_behind (slot_at (c.args.level - 1) (kinds_of c.in_ok-index.rest)) (c.in_ok-bound.item, kinds_of c.in_ok-bound.rest) _ _ g.1 (ap (λ s. Ok (s, kinds_of c.in_ok-bound.rest)) slot))

pub sides-returns-in_err-first-2 : goal.sides-returns-in_err-first-2
sides-returns-in_err-first-2 t c =
    let p = err_from_is_err_and c.from_residual-in_err-first-2.result c.from_residual-in_err-first-2.ensures.1 in
    let e = c.in_err-first-2.field-0.0 in
    let f = closed_fails c.in_ok-first.first behind_mark c.expect-2.result _ (sign_at sign.Colon (kinds_of c.in_ok-first.rest)) e refl c.expect-2.ensures c.in_err-first-2.ensures.ok c.in_err-first-2.ensures.err in
    sides_gives _ c.from_residual-in_err-first-2.result c.args.level (kinds_of c.args.rest) (kinds_of c.in_ok-rest.rest) (kinds_of c.in_ok-first.rest) c.in_ok-first.first (omega arith) c.in_ok-rest.ensures c.in_ok-first.ensures
    (rw (p.1, p.2) (fails_at e (sign_at sign.Colon (kinds_of c.in_ok-first.rest)) _ f))

pub sides-returns : goal.sides-returns
sides-returns t c =
    let level = c.args.level - 1 in
    let g = closed_reads c.in_ok-first.first c.in_ok-first-2.first c.in_ok-first-2.rest behind_mark c.expect-2.result _ (sign_at sign.Colon (kinds_of c.in_ok-first.rest)) refl c.expect-2.ensures c.in_ok-first-2.ensures.ok c.in_ok-first-2.ensures.err in
    sides_gives (λ x. ((x.0, x.1), kinds_of x.2)) c.beside.result c.args.level (kinds_of c.args.rest) (kinds_of c.in_ok-rest.rest) (kinds_of c.in_ok-first.rest) c.in_ok-first.first (omega arith) c.in_ok-rest.ensures c.in_ok-first.ensures
    (gives_behind _ c.beside.result (sign_at sign.Colon (kinds_of c.in_ok-first.rest)) (tt, kinds_of c.in_ok-first-2.rest) _ g.1
    (beside_gives c.in_ok-first-2.first behind_slot _ c.slot-2.result c.beside.result (slot_at level (kinds_of c.in_ok-first-2.rest)) _ (λ x. ap (λ a. Ok ((a, x.0), kinds_of x.1)) (sym g.0)) c.slot-2.ensures c.beside.ensures.ok c.beside.ensures.err))
