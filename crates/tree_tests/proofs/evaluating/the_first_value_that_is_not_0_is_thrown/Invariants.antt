use Rattle.tree_tests.proofs.evaluating.the_first_value_that_is_not_0_is_thrown.Given as goal

abbrev pub ghosts-thrown_in : goal.ghosts-thrown_in
ghosts-thrown_in g a = record { name = a.blank.name; parts = a.blank.parts }
