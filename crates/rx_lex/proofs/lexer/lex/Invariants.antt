use Rattle.std.proofs.Common.{length, IsUtf8}
use Rattle.rx_lex.specs.Tokens.{greatest_in}
use Rattle.rx_lex.specs.Spans.{tokens_in}
use Rattle.rx_lex.proofs.Cover.{Covered}
use Rattle.rx_lex.proofs.lexer.lex.Given as goal

abbrev pub invariant-loop-rest : goal.invariant-loop-rest
invariant-loop-rest l = let ts = tokens_in l.text l.spans.items in record { covered : Covered (greatest_in ts) l.text ts l.rest; utf8 : IsUtf8 l.rest }

abbrev pub decreases-loop-rest : goal.decreases-loop-rest
decreases-loop-rest l = length l.rest
