use Rattle.std.proofs.Common.{sym, ◌∙◌}
use Rattle.rx_lex.specs.Spans.{kinds_of}
use Rattle.rx_grammar.proofs.Statements.{statements_loop}
use Rattle.rx_expression.proofs.Turns.{turned, smaller}
use Rattle.rx_parse.proofs.statements.statements.Goals as goal

pub loop-alloc-smaller : goal.loop-alloc-smaller
loop-alloc-smaller c =
    smaller (statements_loop c.args.level) (kinds_of c.loop-alloc.rest) (kinds_of c.in_ok-statement.after) c.in_ok-statement.statement c.in_ok-statement.ensures

pub loop-alloc-preserved : goal.loop-alloc-preserved
loop-alloc-preserved c =
    turned (statements_loop c.args.level) c.loop-alloc.statements.items _ c.in_ok-statement.statement (kinds_of c.loop-alloc.rest) (kinds_of c.in_ok-statement.after) _
    (sym c.next_is_statement.ensures ∙ c.loop-alloc-test.true) c.in_ok-statement.ensures c.in_ok-push.ensures.items c.loop-alloc.invariant
