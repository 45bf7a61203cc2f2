use Rattle.std.proofs.Common.{◌≡◌, ◌∷◌, ◌++◌, [], true, length, nat_lt, arith}
use Rattle.std.proofs.lemmas.Bool.Decides.{nat_tests}
use Rattle.std.proofs.lemmas.List.{length_push}
use Rattle.rx_set.specs.Places.{place_of}
use Rattle.rx_set.proofs.Few.{few_noted, first_more, first_of, many_noted, noted_of_many, still_noted}
use Rattle.rx_set.proofs.Noting.{noted_more}
use Rattle.rx_set.proofs.places.note_next.Goals as goal

pub returns-then-count-lt-FEW-clause-next : goal.returns-then-count-lt-FEW-clause-next
returns-then-count-lt-FEW-clause-next c =
    few_noted (c.args.members.now ++ c.args.number ∷ []) c.args.places.now (grind (arith, nat_tests, c.if-count-lt-FEW.true, length_push c.args.members.now c.args.number))
    (first_more c.args.members.now c.args.number (first_of c.args.members.now c.args.places.now c.requires.noted) c.requires.none)

pub note_first-requires-clause-apart : goal.note_first-requires-clause-apart
note_first-requires-clause-apart c = first_of c.args.members.now c.args.places.now c.requires.noted

pub returns-then-count-eq-FEW-clause-still : goal.returns-then-count-eq-FEW-clause-still
returns-then-count-eq-FEW-clause-still c =
    few_noted c.args.members.now c.note_first.new.places (grind (arith, nat_tests, c.if-count-eq-FEW.true)) (first_of c.args.members.now c.args.places.now c.requires.noted)

pub returns-clause-next : goal.returns-clause-next
returns-clause-next c =
    let many : nat_lt 8 (length c.args.members.now) ≡ true = grind (arith, nat_tests, c.if-count-lt-FEW.false, c.if-count-eq-FEW.false) in
    many_noted (c.args.members.now ++ c.args.number ∷ []) c.put.new.self (grind (arith, nat_tests, c.if-count-lt-FEW.false, length_push c.args.members.now c.args.number))
    (noted_more (place_of c.args.places.now) c.args.members.now (noted_of_many c.args.members.now c.args.places.now many c.requires.noted) (place_of c.put.new.self) c.args.number c.requires.none c.put.ensures.others c.in_ok-put.ensures.here)

pub returns-clause-still : goal.returns-clause-still
returns-clause-still c =
    still_noted c.args.members.now c.args.number c.args.places.now c.put.new.self (grind (arith, nat_tests, c.if-count-lt-FEW.false, c.if-count-eq-FEW.false)) c.requires.noted
    c.requires.none c.put.ensures.others

pub returns-in_err-put-clause-still : goal.returns-in_err-put-clause-still
returns-in_err-put-clause-still c =
    still_noted c.args.members.now c.args.number c.args.places.now c.put.new.self (grind (arith, nat_tests, c.if-count-lt-FEW.false, c.if-count-eq-FEW.false)) c.requires.noted
    c.requires.none c.put.ensures.others
