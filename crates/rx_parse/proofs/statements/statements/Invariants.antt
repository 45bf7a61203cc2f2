use Rattle.std.proofs.Common.{◌≡◌, length}
use Rattle.rx_lex.specs.Spans.{kinds_of}
use Rattle.rx_grammar.specs.Reading.{statements_at}
use Rattle.rx_expression.specs.Results.{in_front}
use Rattle.rx_parse.proofs.statements.statements.Given as goal

abbrev pub invariant-loop-alloc : goal.invariant-loop-alloc
invariant-loop-alloc l = in_front l.statements.items (statements_at l.level (kinds_of l.rest)) ≡ statements_at l.level (kinds_of l.fn.rest)

abbrev pub decreases-loop-alloc : goal.decreases-loop-alloc
decreases-loop-alloc l = length (kinds_of l.rest)
