use Rattle.std.proofs.Common.{sym, ◌∙◌}
use Rattle.rx_lex.specs.Spans.{kinds_of}
use Rattle.rx_grammar.proofs.Attributes.{attributes_loop}
use Rattle.rx_expression.proofs.Turns.{turned, smaller}
use Rattle.rx_slots.proofs.attributes.attributes.Goals as goal

pub loop-alloc-smaller : goal.loop-alloc-smaller
loop-alloc-smaller c =
    smaller (attributes_loop c.args.host c.args.level) (kinds_of c.loop-alloc.rest) (kinds_of c.in_ok-attribute.after) c.in_ok-attribute.attribute c.in_ok-attribute.ensures

pub loop-alloc-preserved : goal.loop-alloc-preserved
loop-alloc-preserved c =
    turned (attributes_loop c.args.host c.args.level) c.loop-alloc.attributes.items _ c.in_ok-attribute.attribute (kinds_of c.loop-alloc.rest) (kinds_of c.in_ok-attribute.after) _
    (sym c.next_is_attribute.ensures ∙ c.loop-alloc-test.true) c.in_ok-attribute.ensures c.in_ok-push.ensures.items c.loop-alloc.invariant
