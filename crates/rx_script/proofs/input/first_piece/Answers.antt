use Rattle.std.proofs.lemmas.List.{take_rest}
use Rattle.rx_script.proofs.Cuts.{cut-at, last-whole}
use Rattle.rx_script.proofs.input.first_piece.Goals as goal

pub returns-in-Some-clause-cut : goal.returns-in-Some-clause-cut
returns-in-Some-clause-cut c = rw take_rest (cut-at c.args.text.now c.in-Some.at c.in-Some.ensures.found)

pub returns-in-None-clause-last : goal.returns-in-None-clause-last
returns-in-None-clause-last c = last-whole c.args.text.now c.in-None.ensures.none
