use Rattle.std.proofs.Common.{◌≡◌, suc, ◌+◌, ◌*◌, length}
use Rattle.rx_lex.specs.Spans.{kinds_of}
use Rattle.rx_lex.specs.declared.token.Sign.TheVariants as sign
use Rattle.rx_grammar.specs.Steps.{is_mark, all_of}
use Rattle.rx_grammar.specs.Reading.{behind_comma, is_operator, link_at, line_with, inner_at, expr_at}
use Rattle.rx_expression.specs.Results.{in_front}
use Rattle.rx_expression.proofs.expressions.+expr.Given as goal

abbrev pub decreases-prefixed : goal.decreases-prefixed
decreases-prefixed l = l.level * 100 + 3

abbrev pub decreases-group : goal.decreases-group
decreases-group l = l.level * 100 + 3

abbrev pub decreases-call : goal.decreases-call
decreases-call l = l.level * 100 + 3

abbrev pub decreases-choice : goal.decreases-choice
decreases-choice l = l.level * 100 + 3

abbrev pub decreases-named : goal.decreases-named
decreases-named l = l.level * 100 + 4

abbrev pub decreases-operand : goal.decreases-operand
decreases-operand l = l.level * 100 + 5

abbrev pub decreases-line : goal.decreases-line
decreases-line l = l.level * 100 + 10 + 4 * l.line

abbrev pub decreases-link : goal.decreases-link
decreases-link l = l.level * 100 + 11 + 4 * l.below

abbrev pub decreases-links : goal.decreases-links
decreases-links l = l.level * 100 + 12 + 4 * l.below

abbrev pub decreases-expr : goal.decreases-expr
decreases-expr l = l.level * 100 + 40

abbrev pub decreases-more_exprs : goal.decreases-more_exprs
decreases-more_exprs l = l.level * 100 + 45

abbrev pub decreases-exprs : goal.decreases-exprs
decreases-exprs l = l.level * 100 + 50

abbrev pub invariant-links-loop-alloc : goal.invariant-links-loop-alloc
invariant-links-loop-alloc l =
    in_front l.links.items (all_of (is_operator (suc l.below)) (link_at (suc l.below) (line_with l.below (inner_at l.level))) (kinds_of l.rest))
    ≡ all_of (is_operator (suc l.below)) (link_at (suc l.below) (line_with l.below (inner_at l.level))) (kinds_of l.fn.rest)

abbrev pub decreases-links-loop-alloc : goal.decreases-links-loop-alloc
decreases-links-loop-alloc l = length (kinds_of l.rest)

abbrev pub invariant-more_exprs-loop-alloc : goal.invariant-more_exprs-loop-alloc
invariant-more_exprs-loop-alloc l =
    in_front l.exprs.items (all_of (is_mark sign.Comma) (behind_comma (expr_at l.level)) (kinds_of l.rest))
    ≡ in_front l.fn.exprs.items (all_of (is_mark sign.Comma) (behind_comma (expr_at l.level)) (kinds_of l.fn.rest))

abbrev pub decreases-more_exprs-loop-alloc : goal.decreases-more_exprs-loop-alloc
decreases-more_exprs-loop-alloc l = length (kinds_of l.rest)
