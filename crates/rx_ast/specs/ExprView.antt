-- An expression of the code as plain data.
use Rattle.std.specs.Prelude.{List, [], ◌∷◌}
use Rattle.rx_ast.specs.Syntax.{Expr, number, variable, grouped, prefixed, chain, chosen, called, Links, no_links, link, exprs_of}
use Rattle.rx_ast.specs.declared.expr.Link.{Link}
use Rattle.rx_ast.specs.declared.expr.ExprKind.{ExprKind}
use Rattle.rx_ast.specs.declared.expr.ExprKind.TheVariants as kind

-- the operands of a chain behind its first, each with its operator
abbrev pub links_of : List Link → Links
links_of [] = no_links
links_of (l ∷ ls) = link l.operator l.operand (links_of ls)

-- the expression of a kind with its parts
abbrev pub expr_of : ExprKind → Expr
expr_of (kind.Number n) = number n
expr_of (kind.Variable x) = variable x
expr_of (kind.Group e) = grouped e.value
expr_of (kind.Prefixed o e) = prefixed o e.value
expr_of (kind.Chain e ls) = chain e.value (links_of ls.items)
expr_of (kind.Choice c a b) = chosen c.value a.value b.value
expr_of (kind.Call c) = called c.value.function (exprs_of c.value.arguments.items)
