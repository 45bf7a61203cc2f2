use Rattle.rx_grammar.proofs.Programs.{read_has_tokens, has_tokens_read, stops_first}
use Rattle.rx_grammar.proofs.laws.program_is_read.Goals as goal

pub returns-clause-sound : goal.returns-clause-sound
returns-clause-sound c = λ p ks rest h. read_has_tokens p ks rest h

pub returns-clause-complete : goal.returns-clause-complete
returns-clause-complete c = λ p ks h. has_tokens_read p ks h

pub returns-clause-fault : goal.returns-clause-fault
returns-clause-fault c = λ front left free h. stops_first front left free h
