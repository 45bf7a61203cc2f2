use Rattle.std.proofs.Common.{◌≡◌, true, IsSome, length, nat_lt, arith, refl, sym, subst, ◌∙◌}
use Rattle.std.proofs.lemmas.Bool.Decides.{nat_tests}
use Rattle.rx_set.specs.Places.{place_in, place_of}
use Rattle.rx_set.proofs.Few.{few_noted, left_apart, many_noted, noted_of_many}
use Rattle.rx_set.proofs.Noting.{noted_moved, noted_without, was_noted}
use Rattle.rx_set.proofs.places.note_moved.Goals as goal

pub returns-then-members-le-FEW : goal.returns-then-members-le-FEW
returns-then-members-le-FEW c =
    few_noted c.args.members.now c.args.places.now (grind (arith, nat_tests, c.if-members-le-FEW.true))
    (left_apart (place_in c.requires.0 c.args.places.now) c.requires.0 c.requires.2 c.args.members.now c.requires.1 c.args.place c.requires.3 c.requires.4)

pub move_to-requires : goal.move_to-requires
move_to-requires c =
    let many : nat_lt 8 (length c.requires.0) ≡ true = grind (arith, nat_tests, c.if-members-le-FEW.false, c.requires.4.fewer) in
    let noted = noted_of_many c.requires.0 c.args.places.now many c.requires.2 in
    subst IsSome (sym (was_noted (place_of c.args.places.now) c.requires.0 noted c.args.members.now c.requires.1 c.args.place c.requires.3 c.requires.4
    c.in-Some.moved (sym c.number_at.ensures ∙ c.in-Some.is))) refl

pub returns-in-Some : goal.returns-in-Some
returns-in-Some c =
    let many : nat_lt 8 (length c.requires.0) ≡ true = grind (arith, nat_tests, c.if-members-le-FEW.false, c.requires.4.fewer) in
    let noted = noted_of_many c.requires.0 c.args.places.now many c.requires.2 in
    many_noted c.args.members.now c.move_to.new.self (grind (arith, nat_tests, c.if-members-le-FEW.false))
    (noted_moved (place_of c.args.places.now) c.requires.0 noted c.args.members.now c.requires.1 c.args.place c.requires.3 c.requires.4
    c.in-Some.moved (sym c.number_at.ensures ∙ c.in-Some.is) (place_of c.move_to.new.self) c.move_to.ensures.others c.move_to.ensures.here)

pub returns-in_default : goal.returns-in_default
returns-in_default c =
    let many : nat_lt 8 (length c.requires.0) ≡ true = grind (arith, nat_tests, c.if-members-le-FEW.false, c.requires.4.fewer) in
    let noted = noted_of_many c.requires.0 c.args.places.now many c.requires.2 in
    many_noted c.args.members.now c.args.places.now (grind (arith, nat_tests, c.if-members-le-FEW.false))
    (noted_without (place_of c.args.places.now) c.requires.0 noted c.args.members.now c.requires.1 c.args.place c.requires.3 c.requires.4 (sym c.number_at.ensures ∙ c.in_default.is))
