use Rattle.std.proofs.Common.{◌≡◌, length}
use Rattle.rx_lex.specs.Spans.{kinds_of}
use Rattle.rx_lex.specs.declared.token.Sign.TheVariants as sign
use Rattle.rx_grammar.specs.Steps.{is_mark, all_of, taken, as_lower}
use Rattle.rx_grammar.specs.Reading.{behind_comma}
use Rattle.rx_expression.specs.Results.{in_front}
use Rattle.rx_parse.proofs.declarations.more_names.Given as goal

abbrev pub invariant-loop-alloc : goal.invariant-loop-alloc
invariant-loop-alloc l = in_front l.names.items (all_of (is_mark sign.Comma) (behind_comma (taken as_lower)) (kinds_of l.rest)) ≡ in_front l.fn.names.items (all_of (is_mark sign.Comma) (behind_comma (taken as_lower)) (kinds_of l.fn.rest))

abbrev pub decreases-loop-alloc : goal.decreases-loop-alloc
decreases-loop-alloc l = length (kinds_of l.rest)
