-- The line above a line.
use Rattle.std.proofs.Common.{◌≡◌, ℕ, suc, ◌+◌, ◌==◌, Some, None, cond, ap, arith}
use Rattle.rx_ast.specs.declared.expr.Operator.{Operator}
use Rattle.rx_print.specs.Levels.{operator_line}
use Rattle.rx_grammar.specs.Reading.{on_line}

pub on_next_line : (k : ℕ) (o : Operator) → on_line (suc k) (Some o) ≡ cond (operator_line o == k + 1) (Some o) None
on_next_line k o = let next : suc k ≡ k + 1 = omega arith in ap (λ n. cond (operator_line o == n) (Some o) None) next
