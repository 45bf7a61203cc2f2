use Rattle.part_tests.proofs.turns.a_slice_yields_at_its_budget.Given as goal

abbrev pub ghosts-drive_twice : goal.ghosts-drive_twice
ghosts-drive_twice g a = record { name = a.blank.name; parts = a.blank.parts }
