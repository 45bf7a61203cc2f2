use Rattle.rx_lex.proofs.Unique.{place_unique, place_or_tokens}
use Rattle.rx_lex.proofs.Versions.{one_place, place_apart}
use Rattle.rx_lex.proofs.laws.uncovered_place_is_one.Goals as goal

pub returns-clause-one : goal.returns-clause-one
returns-clause-one c = λ greatest at other text small h g. place_unique small at other text h g

pub returns-clause-apart : goal.returns-clause-apart
returns-clause-apart c = λ greatest at text ts small h g. place_or_tokens small at text ts h g

pub returns-clause-of_text : goal.returns-clause-of_text
returns-clause-of_text c = λ at other text h g. one_place at other text h g

pub returns-clause-of_text_apart : goal.returns-clause-of_text_apart
returns-clause-of_text_apart c = λ at text ts h g. place_apart at text ts h g
