use Rattle.std.proofs.Common.{refl, ◌≡◌, Some, ◌++◌, length, sym, ap, ◌∙◌, arith, eqb-true, IsUtf8}
use Rattle.rx_lex.specs.declared.token.Kind.TheVariants.{Text, Mark}
use Rattle.rx_lex.specs.Tokens.{Between, Meant}
use Rattle.rx_lex.specs.Spans.{seen}
use Rattle.rx_lex.proofs.Cuts.{cut_string}
use Rattle.rx_lex.proofs.Fronts.{no_piece, no_empty_word, word_stands}
use Rattle.rx_lex.proofs.lexer.front.Goals as goal

pub returns-then-is_empty-clause-none : goal.returns-then-is_empty-clause-none
returns-then-is_empty-clause-none c = λ is.
    let empty : length c.split_word.result.0.now ≡ 0 = omega (arith, eqb-true (length c.split_word.result.0.now) 0 (sym c.is_empty.ensures ∙ c.if-is_empty.true)) in
    no_piece c.ranges.greatest.fits c.args.text.now c.in_default.ensures.none c.in_default-split_string.ensures.none c.in_default-split_sign.ensures.none _ _ c.split_word.ensures.split c.split_word.ensures.run c.split_word.ensures.end
    (no_empty_word c.ranges.greatest.fits c.split_word.result.0.now empty)

pub returns-in-Err-clause-none : goal.returns-in-Err-clause-none
returns-in-Err-clause-none c = λ is.
    no_piece c.ranges.greatest.fits c.args.text.now c.in_default.ensures.none c.in_default-split_string.ensures.none c.in_default-split_sign.ensures.none _ _ c.split_word.ensures.split c.split_word.ensures.run c.split_word.ensures.end
    (c.in-Err.ensures.none is)

pub returns-in-Some-clause-found : goal.returns-in-Some-clause-found
returns-in-Some-clause-found c =
    let gap = c.in-Some.ensures.found in
    (Between gap.0, record { written = gap.1; whole = gap.2 }, refl)

pub returns-in-Some-split_string-clause-found : goal.returns-in-Some-split_string-clause-found
returns-in-Some-split_string-clause-found c =
    let string = c.in-Some-split_string.ensures.found in
    let content = c.in-Some-split_string.content.now in
    let utf8 : IsUtf8 content = (let texts = rw c.in-Some-split_string.is at c.split_string.type_inv in assumption texts) in
    let same : content ≡ _ = sym (cut_string content c.in-Some-split_string.rest.now c.args.text.now c.in_ok-len.len string.0 c.in_ok-len.ensures.ok utf8) in
    (Meant (Text content), record { written = string.0; whole = string.1 }, ap (λ s. Some (Text s)) same)

pub returns-in-Some-split_sign-clause-found : goal.returns-in-Some-split_sign-clause-found
returns-in-Some-split_sign-clause-found c =
    let sign = c.in-Some-split_sign.ensures.found in
    (Meant (Mark c.in-Some-split_sign.sign), record { written = sign.0; whole = sign.1 }, refl)

pub returns-in-Ok-clause-found : goal.returns-in-Ok-clause-found
returns-in-Ok-clause-found c =
    let rest = c.split_word.result.1.now in
    let w = c.split_word.result.0.now in
    let word = c.in-Ok.ensures.found rest in
    let stands = word_stands (seen (w ++ rest) c.in-Ok.shape) c.args.text.now rest w c.split_word.ensures.split word.0 word.1 c.split_word.ensures.end in
    (stands.0, stands.1, stands.2 ∙ ap (λ bs. Some (seen bs c.in-Ok.shape)) (sym c.split_word.ensures.split))
