use Rattle.part_tests.proofs.base.steps_count_for_a_ledger.Given as goal

abbrev pub ghosts-count_two : goal.ghosts-count_two
ghosts-count_two a = record { name = a.blank.name; parts = a.blank.parts }
