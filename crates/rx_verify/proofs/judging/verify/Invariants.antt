use Rattle.rx_verify.proofs.judging.verify.Given as goal

abbrev pub ghosts-judge : goal.ghosts-judge
ghosts-judge a = record { name = a.blank.name; parts = a.blank.parts }
