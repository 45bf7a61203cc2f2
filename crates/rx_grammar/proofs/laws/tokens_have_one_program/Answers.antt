use Rattle.rx_grammar.proofs.Programs.{one_program}
use Rattle.rx_grammar.proofs.laws.tokens_have_one_program.Goals as goal

pub returns : goal.returns
returns c = λ p q ks h g. one_program p q ks h g
