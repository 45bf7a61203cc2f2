use Rattle.std.proofs.Common.{◌≡◌, ◌++◌, ◌+◌, ◌*◌, drop}
use Rattle.rx_ast.specs.Syntax.{exprs_of}
use Rattle.rx_ast.specs.Depth.{expr_depth, links_depth, exprs_depth}
use Rattle.rx_ast.specs.ExprView.{links_of}
use Rattle.rx_mentions.specs.Mentions.{links_mentions, exprs_mentions}
use Rattle.rx_mentions.proofs.walk.Walk.+expr.Given as goal

abbrev pub decreases-expr : goal.decreases-expr
decreases-expr l = 2 * expr_depth l.expr.now

abbrev pub decreases-links : goal.decreases-links
decreases-links l = 2 * links_depth (links_of l.links.now) + 1

abbrev pub decreases-exprs : goal.decreases-exprs
decreases-exprs l = 2 * exprs_depth (exprs_of l.exprs.now) + 1

-- what is noted and what is left make the whole
abbrev pub invariant-links-loop-link : goal.invariant-links-loop-link
invariant-links-loop-link l = l.self ++ links_mentions l.scope (links_of (drop l.link-index l.links)) ≡ l.fn.self ++ links_mentions l.scope (links_of l.links)

abbrev pub invariant-exprs-loop-expr : goal.invariant-exprs-loop-expr
invariant-exprs-loop-expr l =
    l.self ++ exprs_mentions l.scope (exprs_of (drop l.expr-index l.exprs)) ≡ l.fn.self ++ exprs_mentions l.scope (exprs_of l.exprs)
