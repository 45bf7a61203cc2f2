use Rattle.tree_tests.proofs.evaluating.a_body_is_evaluated.Given as goal

abbrev pub ghosts-counted : goal.ghosts-counted
ghosts-counted g a = record { name = a.blank.name; parts = a.blank.parts }
