use Rattle.std.proofs.Common.{◌∙◌, ◌/◌, ◌%◌, nat_eq, sym, ap}
use Rattle.std.proofs.lemmas.List.{get_or_past}
use Rattle.std.proofs.lemmas.Nat.Bits.{bit_at-zero, shr_and_one}
use Rattle.std.specs.Int.{bit_at}
use Rattle.rx_ways.proofs.way_set.has_bit.Goals as goal

pub returns-in-Some : goal.returns-in-Some
returns-in-Some c =
    ap (λ b. nat_eq b 1) (shr_and_one c.in-Some.word.now (c.args.number % 64))
    ∙ ap (λ w. nat_eq (bit_at w (c.args.number % 64)) 1) (c.in-Some.ensures.lookup.3.1 0)

pub returns-in-None : goal.returns-in-None
returns-in-None c =
    sym (ap (λ w. nat_eq (bit_at w (c.args.number % 64)) 1) (get_or_past c.args.words.now (c.args.number / 64) 0 c.in-None.ensures.lookup.3)
    ∙ ap (λ b. nat_eq b 1) (bit_at-zero (c.args.number % 64)))
