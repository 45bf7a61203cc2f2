use Rattle.std.proofs.Common.{◌∷◌, ◌++◌, [], arith}
use Rattle.std.proofs.lemmas.Bool.Decides.{nat_tests}
use Rattle.std.proofs.lemmas.List.{length_push}
use Rattle.rx_set.specs.Places.{place_of}
use Rattle.rx_set.proofs.Few.{many_noted}
use Rattle.rx_set.proofs.Noting.{noted_more}
use Rattle.rx_set.proofs.places.note_first.Goals as goal

pub returns : goal.returns
returns c =
    many_noted (c.args.members.now ++ c.args.number ∷ []) c.put.new.self (grind (arith, nat_tests, c.requires.few, length_push c.args.members.now c.args.number))
    (noted_more (place_of c.note_all.new.places) c.args.members.now c.in_ok-note_all.ensures (place_of c.put.new.self) c.args.number c.requires.none c.put.ensures.others c.in_ok-put.ensures.here)
