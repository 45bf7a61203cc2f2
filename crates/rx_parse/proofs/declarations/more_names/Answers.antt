use Rattle.std.proofs.Common.{◌≡◌, Ok, sym, ap, ◌∙◌}
use Rattle.rx_lex.specs.Spans.{kinds_of}
use Rattle.rx_grammar.specs.Steps.{taken, as_lower, ◌>>=◌}
use Rattle.rx_grammar.specs.Reading.{behind_comma}
use Rattle.rx_grammar.proofs.Declarations.{names_loop}
use Rattle.rx_expression.proofs.Turns.{turned, smaller}
use Rattle.rx_parse.proofs.declarations.more_names.Goals as goal

pub loop-alloc-smaller : goal.loop-alloc-smaller
loop-alloc-smaller c =
    let item : behind_comma (taken as_lower) (kinds_of c.loop-alloc.rest) ≡ Ok (c.in_ok-next.next, kinds_of c.in_ok-next.after) =
    ap (λ r. r >>= λ s. taken as_lower s.1) c.in_ok-behind.ensures ∙ c.in_ok-next.ensures in
    smaller (names_loop) (kinds_of c.loop-alloc.rest) (kinds_of c.in_ok-next.after) c.in_ok-next.next item

pub loop-alloc-preserved : goal.loop-alloc-preserved
loop-alloc-preserved c =
    let item : behind_comma (taken as_lower) (kinds_of c.loop-alloc.rest) ≡ Ok (c.in_ok-next.next, kinds_of c.in_ok-next.after) =
    ap (λ r. r >>= λ s. taken as_lower s.1) c.in_ok-behind.ensures ∙ c.in_ok-next.ensures in
    turned (names_loop) c.loop-alloc.names.items _ c.in_ok-next.next (kinds_of c.loop-alloc.rest) (kinds_of c.in_ok-next.after) _
    (sym c.next_is.ensures ∙ c.loop-alloc-test.true) item c.in_ok-push.ensures.items c.loop-alloc.invariant
