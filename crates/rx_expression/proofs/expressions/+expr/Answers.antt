use Rattle.std.proofs.Common.{◌≡◌, Ok, sym, ap, ◌∙◌, arith}
use Rattle.std.proofs.lemmas.Result.{err_from_is_err_and}
use Rattle.rx_lex.specs.Spans.{kinds_of}
use Rattle.rx_grammar.specs.Steps.{◌>>=◌}
use Rattle.rx_grammar.specs.Reading.{behind_comma, expr_at}
use Rattle.rx_grammar.proofs.Exprs.{links_loop, exprs_loop}
use Rattle.rx_expression.proofs.Exits.{group_fails, group_reads, choice_colon_fails, choice_second_fails}
use Rattle.rx_expression.proofs.Turns.{turned, smaller}
use Rattle.rx_expression.proofs.expressions.+expr.Goals as goal

pub group-returns-in_err-rest-2 : goal.group-returns-in_err-rest-2
group-returns-in_err-rest-2 t c =
    let p = err_from_is_err_and c.from_residual-in_err-rest-2.result c.from_residual-in_err-rest-2.ensures.1 in
    rw (p.1, p.2) (group_fails c.args.level (kinds_of c.args.rest) (kinds_of c.in_ok-rest.rest) (c.in_ok-inner.inner, kinds_of c.in_ok-inner.rest) (omega arith) c.in_err-rest-2.field-0.0 c.in_ok-rest.ensures c.in_ok-inner.ensures c.in_err-rest-2.ensures)

pub group-returns : goal.group-returns
group-returns t c =
    group_reads c.args.level (kinds_of c.args.rest) (kinds_of c.in_ok-rest.rest) (c.in_ok-inner.inner, kinds_of c.in_ok-inner.rest) (omega arith) (kinds_of c.in_ok-rest-2.rest) c.in_ok-rest.ensures c.in_ok-inner.ensures c.in_ok-rest-2.ensures
    ∙ ap (λ e. Ok (e, kinds_of c.in_ok-rest-2.rest)) (sym c.in_ok-group.ensures)

pub choice-returns-in_err-rest-2 : goal.choice-returns-in_err-rest-2
choice-returns-in_err-rest-2 t c =
    let p = err_from_is_err_and c.from_residual-in_err-rest-2.result c.from_residual-in_err-rest-2.ensures.1 in
    rw (p.1, p.2) (choice_colon_fails c.args.level (kinds_of c.args.rest) (kinds_of c.in_ok-rest.rest) (c.in_ok-first.first, kinds_of c.in_ok-first.rest) (omega arith) c.args.test c.in_err-rest-2.field-0.0 c.in_ok-rest.ensures c.in_ok-first.ensures c.in_err-rest-2.ensures)

pub choice-returns-in_err-second : goal.choice-returns-in_err-second
choice-returns-in_err-second t c =
    let p = err_from_is_err_and c.from_residual-in_err-second.result c.from_residual-in_err-second.ensures.1 in
    rw (p.1, p.2) (choice_second_fails c.args.level (kinds_of c.args.rest) (kinds_of c.in_ok-rest.rest) (c.in_ok-first.first, kinds_of c.in_ok-first.rest) (omega arith) c.args.test c.in_err-second.field-0.0 (kinds_of c.in_ok-rest-2.rest) c.in_ok-rest.ensures c.in_ok-first.ensures c.in_ok-rest-2.ensures c.in_err-second.ensures)

pub links-loop-alloc-smaller : goal.links-loop-alloc-smaller
links-loop-alloc-smaller t c =
    smaller (links_loop c.args.below c.args.level c.requires) (kinds_of c.loop-alloc.rest) (kinds_of c.in_ok-link.after) c.in_ok-link.link c.in_ok-link.ensures

pub links-loop-alloc-preserved : goal.links-loop-alloc-preserved
links-loop-alloc-preserved t c =
    turned (links_loop c.args.below c.args.level c.requires) c.loop-alloc.links.items _ c.in_ok-link.link (kinds_of c.loop-alloc.rest) (kinds_of c.in_ok-link.after) _
    (sym c.next_is_operator.ensures ∙ c.loop-alloc-test.true) c.in_ok-link.ensures c.in_ok-push.ensures.items c.loop-alloc.invariant

pub more_exprs-loop-alloc-smaller : goal.more_exprs-loop-alloc-smaller
more_exprs-loop-alloc-smaller t c =
    let item : behind_comma (expr_at c.args.level) (kinds_of c.loop-alloc.rest) ≡ Ok (c.in_ok-next.next, kinds_of c.in_ok-next.after) =
    ap (λ r. r >>= λ s. expr_at c.args.level s.1) c.in_ok-behind.ensures ∙ c.in_ok-next.ensures in
    smaller (exprs_loop c.args.level) (kinds_of c.loop-alloc.rest) (kinds_of c.in_ok-next.after) c.in_ok-next.next item

pub more_exprs-loop-alloc-preserved : goal.more_exprs-loop-alloc-preserved
more_exprs-loop-alloc-preserved t c =
    let item : behind_comma (expr_at c.args.level) (kinds_of c.loop-alloc.rest) ≡ Ok (c.in_ok-next.next, kinds_of c.in_ok-next.after) =
    ap (λ r. r >>= λ s. expr_at c.args.level s.1) c.in_ok-behind.ensures ∙ c.in_ok-next.ensures in
    turned (exprs_loop c.args.level) c.loop-alloc.exprs.items _ c.in_ok-next.next (kinds_of c.loop-alloc.rest) (kinds_of c.in_ok-next.after) _
    (sym c.next_is.ensures ∙ c.loop-alloc-test.true) item c.in_ok-push.ensures.items c.loop-alloc.invariant
