-- Each part of an expression is less deep than the expression.
use Rattle.std.specs.Prelude.{◌+◌, ◌≤◌, max, List, [], ◌∷◌}
use Rattle.std.proofs.Common.{arith}
use denote.Param.Weighed.{most}
use Rattle.rx_ast.specs.Syntax.{Expr, exprs_of}
use Rattle.rx_ast.specs.Depth.{expr_depth, links_depth, exprs_depth}
use Rattle.rx_ast.specs.ExprView.{expr_of, links_of}
use Rattle.rx_ast.specs.declared.expr.Link.{Link}
use Rattle.rx_ast.specs.declared.expr.ExprKind.{ExprKind}
use Rattle.rx_ast.specs.declared.expr.ExprKind.TheVariants as kind
use Rattle.rx_ast.specs.declared.expr.Expr.TheDeep.{deep-ExprKind, deep-Link}

most_le-exprs_depth : (es : List Expr) → most (λ e. expr_depth e + 1) es ≤ exprs_depth (exprs_of es) + 1
most_le-exprs_depth [] = omega arith
most_le-exprs_depth (e ∷ es) = omega (arith, most_le-exprs_depth es)

most_le-links_depth : (ls : List Link) → most deep-Link ls ≤ links_depth (links_of ls) + 1
most_le-links_depth [] = omega arith
most_le-links_depth (l ∷ ls) = omega (arith, most_le-links_depth ls)

pub expr_falls : (k : ExprKind) → max (deep-ExprKind k) 0 ≤ expr_depth (expr_of k)
expr_falls (kind.Number n) = omega arith
expr_falls (kind.Variable x) = omega arith
expr_falls (kind.Group e) = omega arith
expr_falls (kind.Prefixed o e) = omega arith
expr_falls (kind.Chain e ls) = omega (arith, most_le-links_depth ls.items)
expr_falls (kind.Choice c a b) = omega arith
expr_falls (kind.Call c) = omega (arith, most_le-exprs_depth c.value.arguments.items)
