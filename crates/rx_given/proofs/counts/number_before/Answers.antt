use Rattle.std.proofs.Common.{◌≡◌, decimal, subst, sym, ◌∙◌}
use Rattle.rx_given.specs.Lines.{HasNo}
use Rattle.rx_given.proofs.Digits.{are_text, digits_before, has_it, never_failed, never_other}
use Rattle.rx_given.proofs.counts.number_before.Goals as goal
use Rattle.rx_given.proofs.counts.number_before.Goals.{in_default-parse-via-in-Ok-parse+else-is_decimal_of, in_default-parse-via-in_default-parse}

pub returns-in_err-digits-clause-none : goal.returns-in_err-digits-clause-none
returns-in_err-digits-clause-none c =
    rw c.from_residual.ensures (λ n more small told. has_it c.args.end (decimal n) more (subst (HasNo c.args.end) told c.in_err-digits.ensures.none))

pub returns-in_default-clause-none : goal.returns-in_default-clause-none
returns-in_default-clause-none c = λ n more small told.
    let found = c.in_ok-digits.ensures.found in
    let digits = digits_before c.args.end n c.args.bytes.now c.in_ok-digits.digits.now c.in_ok-digits.behind.now more c.requires small found.0 found.1 told in
    c.in_default.ensures.cases.0 (are_text n c.in_ok-digits.digits.now small digits)

pub returns-in_default-parse-clause-none : goal.returns-in_default-parse-clause-none
returns-in_default-parse-clause-none c = λ n more small told.
    let found = c.in_ok-digits.ensures.found in
    let digits = digits_before c.args.end n c.args.bytes.now c.in_ok-digits.digits.now c.in_ok-digits.behind.now more c.requires small found.0 found.1 told in
    let word : c.in-Ok.word.now ≡ decimal n = c.in-Ok.ensures.cases.0 ∙ digits in
    elim c.in_default-parse.branch [
      | in_default-parse-via-in-Ok-parse+else-is_decimal_of w ↦
          never_other n w.in-Ok-parse.number c.in-Ok.word.now c.parse.result small word c.parse.ensures.value.0 w.in-Ok-parse.is (sym w.is_decimal_of.ensures ∙ w.if-is_decimal_of.false)
      | in_default-parse-via-in_default-parse w ↦ never_failed n c.in-Ok.word.now c.parse.result w.in_default-parse.field-0 small word c.parse.ensures.value.0 w.in_default-parse.is
    ]
