use Rattle.std.proofs.Common.{◌≡◌, length}
use Rattle.rx_lex.specs.Spans.{kinds_of}
use Rattle.rx_lex.specs.declared.token.Sign.TheVariants as sign
use Rattle.rx_grammar.specs.Steps.{is_mark, all_of}
use Rattle.rx_grammar.specs.Reading.{behind_comma, parameter_at}
use Rattle.rx_expression.specs.Results.{in_front}
use Rattle.rx_parse.proofs.declarations.more_parameters.Given as goal

abbrev pub invariant-loop-alloc : goal.invariant-loop-alloc
invariant-loop-alloc l = in_front l.parameters.items (all_of (is_mark sign.Comma) (behind_comma (parameter_at)) (kinds_of l.rest)) ≡ in_front l.fn.parameters.items (all_of (is_mark sign.Comma) (behind_comma (parameter_at)) (kinds_of l.fn.rest))

abbrev pub decreases-loop-alloc : goal.decreases-loop-alloc
decreases-loop-alloc l = length (kinds_of l.rest)
