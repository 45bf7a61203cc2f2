use Rattle.std.proofs.Common.{sym, ◌∙◌}
use Rattle.rx_lex.specs.Spans.{kinds_of}
use Rattle.rx_grammar.proofs.Declarations.{lines_loop}
use Rattle.rx_expression.proofs.Turns.{turned, smaller}
use Rattle.rx_parse.proofs.statements.lines.Goals as goal

pub loop-alloc-smaller : goal.loop-alloc-smaller
loop-alloc-smaller c =
    smaller (lines_loop c.args.level) (kinds_of c.loop-alloc.rest) (kinds_of c.in_ok-line.after) c.in_ok-line.line c.in_ok-line.ensures

pub loop-alloc-preserved : goal.loop-alloc-preserved
loop-alloc-preserved c =
    turned (lines_loop c.args.level) c.loop-alloc.lines.items _ c.in_ok-line.line (kinds_of c.loop-alloc.rest) (kinds_of c.in_ok-line.after) _
    (sym c.next_is_word.ensures ∙ c.loop-alloc-test.true) c.in_ok-line.ensures c.in_ok-push.ensures.items c.loop-alloc.invariant
