-- Each item of a list is no deeper than the list.
use Rattle.std.proofs.Common.{ℕ, zero, suc, ◌<◌, ◌≤◌, List, [], ◌∷◌, length, get_or, take, drop, arith}
use Rattle.rx_ast.specs.Syntax.{Expr, exprs_of, Slot, slots_of}
use Rattle.rx_ast.specs.Depth.{expr_depth, exprs_depth, links_depth, slot_depth, slots_depth}
use Rattle.rx_ast.specs.ExprView.{links_of}
use Rattle.rx_ast.specs.declared.expr.Link.{Link}

pub expr_depth-get_or : (es : List Expr) (i : ℕ) (d : Expr) → i < length es → expr_depth (get_or es i d) ≤ exprs_depth (exprs_of es)
expr_depth-get_or [] i d h = omega (arith, h)
expr_depth-get_or (e ∷ es) zero d h = omega arith
expr_depth-get_or (e ∷ es) (suc i) d h = let below : i < length es = omega (arith, h) in omega (arith, expr_depth-get_or es i d below)

pub operand_depth-get_or : (ls : List Link) (i : ℕ) (d : Link) → i < length ls → expr_depth (get_or ls i d).operand ≤ links_depth (links_of ls)
operand_depth-get_or [] i d h = omega (arith, h)
operand_depth-get_or (l ∷ ls) zero d h = omega arith
operand_depth-get_or (l ∷ ls) (suc i) d h = let below : i < length ls = omega (arith, h) in omega (arith, operand_depth-get_or ls i d below)

exprs_depth-take : (k : ℕ) (es : List Expr) → exprs_depth (exprs_of (take k es)) ≤ exprs_depth (exprs_of es)
exprs_depth-take zero es = omega arith
exprs_depth-take (suc k) [] = omega arith
exprs_depth-take (suc k) (e ∷ es) = omega (arith, exprs_depth-take k es)

-- a list behind its first item is no deeper
pub exprs_depth-take-drop : (k : ℕ) (es : List Expr) → exprs_depth (exprs_of (take k (drop 1 es))) ≤ exprs_depth (exprs_of es)
exprs_depth-take-drop k [] = exprs_depth-take k []
exprs_depth-take-drop k (e ∷ es) = omega (arith, exprs_depth-take k es)

pub slot_depth-get_or : (ss : List Slot) (i : ℕ) (d : Slot) → i < length ss → slot_depth (get_or ss i d) ≤ slots_depth (slots_of ss)
slot_depth-get_or [] i d h = omega (arith, h)
slot_depth-get_or (s ∷ ss) zero d h = omega arith
slot_depth-get_or (s ∷ ss) (suc i) d h = let below : i < length ss = omega (arith, h) in omega (arith, slot_depth-get_or ss i d below)
