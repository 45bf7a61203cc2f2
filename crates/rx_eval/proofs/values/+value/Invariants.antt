use Rattle.std.proofs.Common.{◌≡◌, ◌+◌, drop}
use Rattle.rx_ast.specs.Syntax.{exprs_of, functions}
use Rattle.rx_ast.specs.ExprView.{links_of}
use Rattle.rx_rules.specs.Versions.{width}
use Rattle.rx_meaning.specs.Expressions.{nested_calls, chained}
use Rattle.rx_eval.proofs.Sizes.{expr_size, links_size, exprs_size, lines_size, room}
use Rattle.rx_eval.proofs.values.+value.Given as goal

abbrev pub decreases-value : goal.decreases-value
decreases-value l = room l.nesting (functions l.checked.now) + expr_size l.expr.now

abbrev pub decreases-value_at_once : goal.decreases-value_at_once
decreases-value_at_once l = room l.nesting (functions l.checked.now) + expr_size l.expr.now + 1

abbrev pub decreases-chained : goal.decreases-chained
decreases-chained l = room l.nesting (functions l.checked.now) + links_size (links_of l.links.now) + 2

abbrev pub decreases-call : goal.decreases-call
decreases-call l = room l.nesting (functions l.checked.now) + exprs_size (exprs_of l.arguments.now) + 2

abbrev pub decreases-with_arguments : goal.decreases-with_arguments
decreases-with_arguments l = room l.nesting (functions l.checked.now) + exprs_size (exprs_of l.arguments.now) + 1

abbrev pub decreases-after_lines : goal.decreases-after_lines
decreases-after_lines l = room l.nesting (functions l.checked.now) + lines_size l.lines.now + expr_size l.answer.now + 1

-- what the links that are left make of the value so far is the value of the whole
abbrev pub invariant-chained-loop-link : goal.invariant-chained-loop-link
invariant-chained-loop-link l =
    chained (width l.checked) (nested_calls l.nesting l.checked) l.env l.so_far (links_of (drop l.link-index l.links)) ≡ chained (width l.checked) (nested_calls l.nesting l.checked) l.env l.fn.first (links_of l.links)
