use Rattle.std.proofs.lemmas.List.{take_rest}
use Rattle.rx_script.proofs.Cuts.{pieces-at, pieces-whole}
use Rattle.rx_script.proofs.path.first_piece.Goals as goal

pub returns-in-Some-clause-piece : goal.returns-in-Some-clause-piece
returns-in-Some-clause-piece c =
    let found = c.in-Some.ensures.found in
    (_, pieces-at 47 c.args.word.now c.in-Some.at found.within found.here found.first)

pub returns-in-Some-clause-cut : goal.returns-in-Some-clause-cut
returns-in-Some-clause-cut c =
    let found = c.in-Some.ensures.found in
    rw take_rest (pieces-at 47 c.args.word.now c.in-Some.at found.within found.here found.first)

pub returns-in-None-clause-piece : goal.returns-in-None-clause-piece
returns-in-None-clause-piece c = (_, pieces-whole 47 c.args.word.now c.in-None.ensures.none)

pub returns-in-None-clause-last : goal.returns-in-None-clause-last
returns-in-None-clause-last c = pieces-whole 47 c.args.word.now c.in-None.ensures.none
