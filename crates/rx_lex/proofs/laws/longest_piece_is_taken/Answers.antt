use Rattle.rx_lex.proofs.Longest.{longest}
use Rattle.rx_lex.proofs.laws.longest_piece_is_taken.Goals as goal

pub returns : goal.returns
returns c = λ greatest p q text rest after small h alone e. longest small text rest after p q h alone e
