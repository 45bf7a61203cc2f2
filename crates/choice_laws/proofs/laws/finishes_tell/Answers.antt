use Rattle.choice_laws.proofs.Firsts.{says_first}
use Rattle.choice_laws.proofs.Texts as texts
use Rattle.choice_laws.proofs.laws.finishes_tell.Goals as goal

pub returns : goal.returns
returns c = record { first = says_first; told = texts.finishes_tell; last = texts.counts_come_last }
