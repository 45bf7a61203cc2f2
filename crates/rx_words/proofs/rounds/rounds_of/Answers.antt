use Rattle.std.proofs.Common.{◌≡◌, ◌∙◌, sym, ap, true, false, decimal, arith}
use Rattle.std.proofs.lemmas.Slice.Eq.{bytes_eq-Decides}
use Rattle.rx_words.proofs.Decimals.{rounds-is, decimal-rounds, number-read, never-failed, no-rounds}
use Rattle.rx_words.proofs.rounds.rounds_of.Goals as goal

pub returns-in-Ok : goal.returns-in-Ok
returns-in-Ok c =
    let is = (bytes_eq-Decides c.args.word.now (decimal c.in-Ok.number)).0 (sym c.is_decimal_of.ensures ∙ c.if-is_decimal_of.true) in
    sym (decimal-rounds c.args.word.now c.in-Ok.number is (omega (arith, c.if-number-ge1.true)) (omega (arith, c.if-number-le-MOST.true)))

pub returns-in_default : goal.returns-in_default
returns-in_default c = no-rounds c.args.word.now (λ n is.
    let number = number-read c.args.word.now c.in-Ok.number n c.parse.result c.parse.ensures.value.0 c.in-Ok.is is in
    let is_decimal = (bytes_eq-Decides c.args.word.now (decimal c.in-Ok.number)).1 ((rounds-is c.args.word.now n is).0 ∙ ap decimal (sym number)) in
    let clash : true ≡ false = sym is_decimal ∙ sym c.is_decimal_of.ensures ∙ c.if-is_decimal_of.false in
    cc)

pub returns-in_default-2 : goal.returns-in_default-2
returns-in_default-2 c = no-rounds c.args.word.now (λ n is.
    let number = number-read c.args.word.now c.in-Ok.number n c.parse.result c.parse.ensures.value.0 c.in-Ok.is is in
    omega (arith, number, (rounds-is c.args.word.now n is).2, c.if-number-le-MOST.false))

pub returns-in_default-3 : goal.returns-in_default-3
returns-in_default-3 c = no-rounds c.args.word.now (λ n is.
    let number = number-read c.args.word.now c.in-Ok.number n c.parse.result c.parse.ensures.value.0 c.in-Ok.is is in
    omega (arith, number, (rounds-is c.args.word.now n is).1, c.if-number-ge1.false))

pub returns-in_default-4 : goal.returns-in_default-4
returns-in_default-4 c = no-rounds c.args.word.now (λ n is. never-failed c.args.word.now n c.parse.result c.in_default.field-0 c.parse.ensures.value.0 c.in_default.is is)
