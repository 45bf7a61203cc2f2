use Rattle.std.proofs.Common.{◌≡◌, ◌≤◌, true, false, ◌++◌, refl, sym, ap, ◌∙◌, subst, arith}
use Rattle.std.specs.List.{slice_index}
use Rattle.std.specs.Char.{is_ascii_digit}
use Rattle.std.specs.Int.{is_in_range}
use Rattle.rx_lex.specs.Tokens.{IsName, IsWordKind}
use Rattle.rx_lex.specs.declared.token.Kind.TheVariants.{Upper, Lower}
use Rattle.std.specs.Fmt.{decimal}
use Rattle.rx_lex.specs.Spans.{cut, number_in}
use Rattle.rx_lex.proofs.Cuts.{cut_front}
use Rattle.rx_lex.proofs.Numbers.{number_in-decimal}
use Rattle.rx_lex.proofs.words.word_shape.Goals as goal

pub returns-then-is_ascii_uppercase-clause-found : goal.returns-then-is_ascii_uppercase-clause-found
returns-then-is_ascii_uppercase-clause-found c = λ after.
    let w = c.args.word.now in
    let same : w ≡ _ = sym (cut_front w after (w ++ after) c.in_ok-len.len refl c.in_ok-len.ensures.ok c.utf8.word) in
    let name : IsName w = record { bytes = c.requires.run; free = c.in_default.ensures.none } in
    let upper : is_in_range 65 90 (slice_index w 0) ≡ true = cc in
    (same, subst (λ v. IsWordKind c.args.greatest (Upper v)) same (name, upper))

pub returns-else-is_ascii_uppercase-clause-found : goal.returns-else-is_ascii_uppercase-clause-found
returns-else-is_ascii_uppercase-clause-found c = λ after.
    let w = c.args.word.now in
    let same : w ≡ _ = sym (cut_front w after (w ++ after) c.in_ok-len.len refl c.in_ok-len.ensures.ok c.utf8.word) in
    let name : IsName w = record { bytes = c.requires.run; free = c.in_default.ensures.none } in
    let upper : is_in_range 65 90 (slice_index w 0) ≡ false = cc in
    let digit : is_ascii_digit (slice_index w 0) ≡ false = cc in
    (same, subst (λ v. IsWordKind c.args.greatest (Lower v)) same (name, c.requires.some, upper, digit))

pub returns-in_ok-brief-in-Some-clause-found : goal.returns-in_ok-brief-in-Some-clause-found
returns-in_ok-brief-in-Some-clause-found c = λ after.
    let w = c.args.word.now in
    let n = c.in-Some.field-0 in
    let found = c.in-Some.ensures.found in
    let same : cut c.in_ok-brief-in-Some.field-0 (w ++ after) ≡ w = cut_front w after (w ++ after) c.in_ok-brief-in-Some.field-0 refl c.in_ok-brief-in-Some.ensures.ok c.utf8.word in
    let number : number_in (cut c.in_ok-brief-in-Some.field-0 (w ++ after)) ≡ n = ap number_in (same ∙ found.0) ∙ number_in-decimal n (omega (arith, found.1, c.ranges.greatest.fits)) in
    (found.0 ∙ ap decimal (sym number), subst (λ m. m ≤ c.args.greatest) (sym number) found.1)
