use Rattle.std.proofs.Common.{◌≡◌, map, take}
use Rattle.rx_meaning.specs.Expressions.{value_in}
use Rattle.rx_eval.proofs.statements.values_of.Given as goal

-- the values so far are those of the expressions so far
abbrev pub invariant-loop-expr : goal.invariant-loop-expr
invariant-loop-expr l = l.values.items ≡ map (value_in l.evaluator l.env) (take l.expr-index l.exprs)
