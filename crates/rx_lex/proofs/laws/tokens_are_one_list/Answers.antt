use Rattle.rx_lex.proofs.Unique.{tokens_unique}
use Rattle.rx_lex.proofs.Versions.{one_list}
use Rattle.rx_lex.proofs.laws.tokens_are_one_list.Goals as goal

pub returns-clause-of_text : goal.returns-clause-of_text
returns-clause-of_text c = λ text ts us h g. one_list text ts us h g

pub returns-clause-below : goal.returns-clause-below
returns-clause-below c = λ greatest text ts us small h g. tokens_unique small text ts us h g
