use Rattle.std.proofs.Common.{◌≡◌, ◌≤◌, true, false, length, get_or, sym, ap, ◌∙◌, arith}
use Rattle.std.specs.List.{list_all}
use Rattle.std.specs.Char.{is_ascii_digit}
use Rattle.rx_lex.proofs.Numbers.{number_written, no_number_without_digits, no_number_after_zero, no_other_number}
use Rattle.rx_lex.proofs.words.number.Goals as goal
use Rattle.rx_lex.proofs.words.number.Goals.{else-bytes-gt1-via-then-bytes-gt1+else-bytes-eq48, else-bytes-gt1-via-else-bytes-gt1}

pub returns-then-not-is_digits-clause-none : goal.returns-then-not-is_digits-clause-none
returns-then-not-is_digits-clause-none c =
    let digits : list_all is_ascii_digit c.args.word.now ≡ false = cc in
    no_number_without_digits c.ranges.greatest.fits c.args.word.now digits

pub returns-then-bytes-eq48-clause-none : goal.returns-then-bytes-eq48-clause-none
returns-then-bytes-eq48-clause-none c =
    let same = c.as_bytes-bytes.ensures.value in
    let zero : get_or c.args.word.now 0 0 ≡ 48 = ap (λ l. get_or l 0 0) (sym same) ∙ c.if-bytes-eq48.true in
    no_number_after_zero c.ranges.greatest.fits c.args.word.now (omega (arith, ap length same)) zero

pub returns-in-Ok-clause-found : goal.returns-in-Ok-clause-found
returns-in-Ok-clause-found c =
    let same = c.as_bytes-bytes.ensures.value in
    let digits : list_all is_ascii_digit c.args.word.now ≡ true = cc in
    let short : get_or c.as_bytes-bytes.result.now 0 0 ≡ 48 → length c.as_bytes-bytes.result.now ≤ 1 =
    elim c.else-bytes-gt1.branch [ else-bytes-gt1-via-then-bytes-gt1+else-bytes-eq48 w ↦ λ e. absurd (w.if-bytes-eq48.false e) | else-bytes-gt1-via-else-bytes-gt1 w ↦ λ e. omega arith ] in
    let zero : get_or c.args.word.now 0 0 ≡ 48 → length c.args.word.now ≤ 1 =
    λ e. omega (arith, ap length same, short (ap (λ l. get_or l 0 0) same ∙ e)) in
    (number_written c.args.word.now c.parse.result c.in-Ok.n c.parse.ensures.value.0 digits zero c.in-Ok.is, c.if-n-greatest.true)

pub returns-in_default-clause-none : goal.returns-in_default-clause-none
returns-in_default-clause-none c =
    no_other_number c.ranges.greatest.fits c.args.word.now c.parse.result c.parse.ensures.value.0
    (λ m e. let same : m ≡ c.in-Ok.n = cc in omega arith)

pub returns-in_default-2-clause-none : goal.returns-in_default-2-clause-none
returns-in_default-2-clause-none c =
    no_other_number c.ranges.greatest.fits c.args.word.now c.parse.result c.parse.ensures.value.0
    (λ m e. let is = c.in_default.is in cc)
