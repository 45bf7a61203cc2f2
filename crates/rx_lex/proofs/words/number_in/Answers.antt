use Rattle.std.proofs.Common.{◌≡◌, true, false, sym}
use Rattle.std.specs.List.{list_all}
use Rattle.std.specs.Char.{is_ascii_digit}
use Rattle.rx_lex.proofs.Numbers.{number_in-no_digits, number_in-parsed, number_in-unparsed}
use Rattle.rx_lex.proofs.words.number_in.Goals as goal

pub returns-then-not-is_digits : goal.returns-then-not-is_digits
returns-then-not-is_digits c =
    let digits : list_all is_ascii_digit c.args.word.now ≡ false = cc in
    sym (number_in-no_digits c.args.word.now digits)

pub returns-in-Ok : goal.returns-in-Ok
returns-in-Ok c =
    let digits : list_all is_ascii_digit c.args.word.now ≡ true = cc in
    number_in-parsed c.args.word.now c.parse.result c.in-Ok.n c.parse.ensures.value.0 digits c.in-Ok.is

pub returns-in-Err : goal.returns-in-Err
returns-in-Err c =
    let digits : list_all is_ascii_digit c.args.word.now ≡ true = cc in
    sym (number_in-unparsed c.args.word.now c.parse.result c.in-Err.field-0 c.parse.ensures.value.0 digits c.in-Err.is)
