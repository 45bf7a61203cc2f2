use Rattle.std.proofs.Common.{sym, ◌∙◌, arith}
use Rattle.rx_lex.specs.Spans.{kinds_of}
use Rattle.rx_slots.proofs.Inner.{fragment_reads}
use Rattle.rx_slots.proofs.bodies.opened.Goals as goal

pub returns-then-next_is : goal.returns-then-next_is
returns-then-next_is c =
    fragment_reads c.args.level (kinds_of c.args.rest) (kinds_of c.in_ok-rest.rest) (kinds_of c.in_ok-children.rest) c.in_ok-children.children.items (omega arith)
    c.in_ok-rest.ensures (sym c.next_is.ensures ∙ c.if-next_is.true) c.in_ok-children.ensures
