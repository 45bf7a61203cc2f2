use Rattle.render_tests.proofs.rendering.a_render_goes_on_where_it_yielded.Given as goal

abbrev pub ghosts-render_in_slices : goal.ghosts-render_in_slices
ghosts-render_in_slices g a = record { name = a.blank.name; parts = a.blank.parts }
