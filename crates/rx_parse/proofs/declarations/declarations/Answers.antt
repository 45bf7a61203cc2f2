use Rattle.std.proofs.Common.{sym, ◌∙◌}
use Rattle.rx_lex.specs.Spans.{kinds_of}
use Rattle.rx_grammar.proofs.Declarations.{declarations_loop}
use Rattle.rx_expression.proofs.Turns.{turned, smaller}
use Rattle.rx_parse.proofs.declarations.declarations.Goals as goal

pub loop-alloc-smaller : goal.loop-alloc-smaller
loop-alloc-smaller c =
    smaller (declarations_loop c.args.level) (kinds_of c.loop-alloc.rest) (kinds_of c.in_ok-declaration.after) c.in_ok-declaration.declaration c.in_ok-declaration.ensures

pub loop-alloc-preserved : goal.loop-alloc-preserved
loop-alloc-preserved c =
    turned (declarations_loop c.args.level) c.loop-alloc.declarations.items _ c.in_ok-declaration.declaration (kinds_of c.loop-alloc.rest) (kinds_of c.in_ok-declaration.after) _
    (sym c.next_is_declaration.ensures ∙ c.loop-alloc-test.true) c.in_ok-declaration.ensures c.in_ok-push.ensures.items c.loop-alloc.invariant
