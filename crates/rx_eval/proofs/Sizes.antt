-- How large expressions are: the measure of an evaluation.
use Rattle.std.proofs.Common.{ℕ, ◌+◌, ◌*◌, max, List, [], ◌∷◌}
use Rattle.rx_ast.specs.Syntax.{Expr, number, variable, grouped, prefixed, chain, chosen, called, Links, no_links, link, Exprs, no_exprs, expr, Line, Function}

-- how many expressions, links and arguments an expression has
abbrev mutual
  pub expr_size : Expr → ℕ
  expr_size (number n) = 1
  expr_size (variable x) = 1
  expr_size (grouped e) = 1 + expr_size e
  expr_size (prefixed o e) = 2 + expr_size e
  expr_size (chain e ls) = 3 + expr_size e + links_size ls
  expr_size (chosen c a b) = 2 + expr_size c + expr_size a + expr_size b
  expr_size (called f es) = 3 + exprs_size es

  pub links_size : Links → ℕ
  links_size no_links = 0
  links_size (link o e ls) = expr_size e + links_size ls

  pub exprs_size : Exprs → ℕ
  exprs_size no_exprs = 0
  exprs_size (expr e es) = 1 + expr_size e + exprs_size es

-- the same of the lines of a function
abbrev pub lines_size : List Line → ℕ
lines_size [] = 0
lines_size (l ∷ ls) = 1 + expr_size l.value + lines_size ls

-- the same of a function
abbrev pub function_size : Function → ℕ
function_size f = lines_size f.lines + expr_size f.answer

-- the size of the largest function
abbrev pub widest : List Function → ℕ
widest [] = 0
widest (f ∷ fs) = max (function_size f) (widest fs)

-- an evaluation whose calls nest so deep: each level below has room for the largest function
abbrev pub room : (nesting : ℕ) → List Function → ℕ
room n fs = (widest fs + 4) * n
