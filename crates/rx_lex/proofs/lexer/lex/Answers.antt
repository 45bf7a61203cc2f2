use Rattle.std.proofs.Common.{◌≡◌, ◌≢◌, ◌++◌, ◌-◌, Some, length, drop, sym, ap, ◌∙◌, subst, arith, [], false-eqb, eqb-true, ◌∷◌}
use Rattle.rx_lex.specs.declared.spans.Shape.TheVariants as shape
use Rattle.rx_lex.specs.Tokens.{StandsFirst, IsUncovered, greatest_in, token_at, end_mark}
use Rattle.rx_lex.specs.Spans.{seen_if, span_at, tokens_in}
use Rattle.rx_lex.proofs.Cuts.{found_in}
use Rattle.rx_lex.proofs.Cover.{Covered, no_end, rest_is, rest_within, with_found, uncovered, rest_is_shorter}
use Rattle.rx_lex.proofs.Versions.{first_uncovered, greatest_fits, only_these, place_apart, tokens_of_text, with_more}
use Rattle.rx_lex.proofs.lexer.lex.Goals as goal

pub overflow_sub-place : goal.overflow_sub-place
overflow_sub-place c = rest_within c.loop-rest.invariant.covered

pub loop-rest-smaller : goal.loop-rest-smaller
loop-rest-smaller c =
    let f = c.in-Ok.ensures.found in
    let told : c.greatest_in.result ≡ greatest_in (tokens_in c.args.text.now c.loop-rest.spans.items) = cc in
    let stands = subst (λ g. StandsFirst g f.0 c.loop-rest.rest.now c.in-Ok.after.now) told f.1 in
    rest_is_shorter (greatest_fits (tokens_in c.args.text.now c.loop-rest.spans.items)) f.0 c.loop-rest.rest.now c.in-Ok.after.now stands

pub loop-rest-preserved : goal.loop-rest-preserved
loop-rest-preserved c =
    let f = c.in-Ok.ensures.found in
    let text = c.args.text.now in
    let rest = c.loop-rest.rest.now in
    let after = c.in-Ok.after.now in
    let ts = tokens_in text c.loop-rest.spans.items in
    let place = length text - length rest in
    let kind = seen_if rest c.in-Ok.found in
    let told : c.greatest_in.result ≡ greatest_in ts = cc in
    let stands = subst (λ g. StandsFirst g f.0 rest after) told f.1 in
    let pushed : c.push_found.new.spans.items ≡ c.loop-rest.spans.items ++ span_at place c.in-Ok.found = c.in_ok-push_found-in-Ok.ensures.ok in
    let here : drop place text ≡ rest = rest_is c.loop-rest.invariant.covered in
    let tokens : tokens_in text c.push_found.new.spans.items ≡ ts ++ token_at place kind =
    ap (tokens_in text) pushed ∙ (found_in text c.loop-rest.spans.items place c.in-Ok.found ∙ ap (λ bs. ts ++ token_at place (seen_if bs c.in-Ok.found)) here) in
    record {
      covered = subst (λ us. Covered (greatest_in us) text us after) (sym tokens)
          (with_more ts (token_at place kind) (with_found c.loop-rest.invariant.covered f.0 kind after stands f.2));
      utf8 = let text = rw c.in-Ok.is at c.front.type_inv in assumption text;
    }

pub returns-in-Err-Uncovered-clause-fault : goal.returns-in-Err-Uncovered-clause-fault
returns-in-Err-Uncovered-clause-fault c =
    let covered = c.loop-rest.invariant.covered in
    let told : c.greatest_in.result ≡ greatest_in (tokens_in c.args.text.now c.loop-rest.spans.items) = cc in
    let none = subst (λ g. IsUncovered g c.loop-rest.rest.now) told (c.in-Err-Uncovered.ensures.none c.in-Err-Uncovered.field-0-is) in
    let some : c.loop-rest.rest.now ≢ [] = λ e. omega (arith, ap length e, false-eqb _ 0 c.loop-rest-test.ensures) in
    first_uncovered covered (length c.args.text.now - length c.loop-rest.rest.now) (uncovered covered some none)

pub returns-in-Err-Uncovered-clause-only : goal.returns-in-Err-Uncovered-clause-only
returns-in-Err-Uncovered-clause-only c = λ us other.
    let covered = c.loop-rest.invariant.covered in
    let told : c.greatest_in.result ≡ greatest_in (tokens_in c.args.text.now c.loop-rest.spans.items) = cc in
    let none = subst (λ g. IsUncovered g c.loop-rest.rest.now) told (c.in-Err-Uncovered.ensures.none c.in-Err-Uncovered.field-0-is) in
    let some : c.loop-rest.rest.now ≢ [] = λ e. omega (arith, ap length e, false-eqb _ 0 c.loop-rest-test.ensures) in
    let at = length c.args.text.now - length c.loop-rest.rest.now in
    absurd (place_apart at c.args.text.now us (first_uncovered covered at (uncovered covered some none)) other)

pub returns-clause-only : goal.returns-clause-only
returns-clause-only c = λ us other.
    let text = c.args.text.now in
    let empty : length c.loop-rest.rest.now ≡ 0 = omega (arith, eqb-true (length c.loop-rest.rest.now) 0 (sym c.is_empty.ensures ∙ c.loop-rest-test.false)) in
    ap (tokens_in text) c.in_ok-push_found.ensures.ok ∙ (found_in text c.loop-rest.spans.items (length text) (Some shape.End) ∙ ap (λ ts. ts ++ end_mark (length text) ∷ []) (only_these c.loop-rest.invariant.covered empty us other))

pub returns-clause-tokens : goal.returns-clause-tokens
returns-clause-tokens c =
    let text = c.args.text.now in
    let ts = tokens_in text c.loop-rest.spans.items in
    let empty : length c.loop-rest.rest.now ≡ 0 = omega (arith, eqb-true (length c.loop-rest.rest.now) 0 (sym c.is_empty.ensures ∙ c.loop-rest-test.false)) in
    let its = tokens_of_text c.loop-rest.invariant.covered empty in
    (ts, its, ap (tokens_in text) c.in_ok-push_found.ensures.ok ∙ found_in text c.loop-rest.spans.items (length text) (Some shape.End), no_end ts text its)
