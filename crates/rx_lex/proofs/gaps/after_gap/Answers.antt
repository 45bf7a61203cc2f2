use Rattle.std.proofs.Common.{◌≡◌, ◌++◌, true, codes, get_or, sym, ap, ◌∙◌, arith}
use Rattle.std.proofs.lemmas.Str.{IsCharBoundary-after_ascii}
use Rattle.rx_lex.specs.Tokens.{is_blank}
use Rattle.rx_lex.proofs.Fronts.{line_comment_front, block_comment_front, blank_front, blank_is_ascii}
use Rattle.rx_lex.proofs.gaps.after_gap.Goals as goal

pub returns-in-Some-clause-found : goal.returns-in-Some-clause-found
returns-in-Some-clause-found c =
    let found = c.in-Some.ensures.cases in
    let written : c.args.text.now ≡ codes "//" ++ c.in-Some.body.now = found.1.1 ∙ ap (λ l. codes "//" ++ l) (sym found.2) in
    line_comment_front _ _ _ written c.after_line.ensures

pub returns-in-Some-strip_prefix-clause-found : goal.returns-in-Some-strip_prefix-clause-found
returns-in-Some-strip_prefix-clause-found c =
    let found = c.in-Some-strip_prefix.ensures.cases in
    let written : c.args.text.now ≡ codes "/*" ++ c.in-Some-strip_prefix.body.now = found.1.1 ∙ ap (λ l. codes "/*" ++ l) (sym found.2) in
    block_comment_front _ _ c.after_close.result written c.after_close.ensures.found

pub split_at-requires : goal.split_at-requires
split_at-requires c =
    let first = c.in_ok-first.ensures.cases in
    let blank : is_blank c.in_ok-first.first.now ≡ true = cc in
    let head : get_or c.args.text.now 0 0 ≡ c.in_ok-first.first.now = ap (λ l. get_or l 0 0) (sym c.as_bytes.ensures.value ∙ first.0) in
    let len = c.as_bytes.ensures.len in
    IsCharBoundary-after_ascii c.args.text.now 0 c.utf8.text (omega arith) (omega (arith, blank_is_ascii c.in_ok-first.first.now blank))

pub returns-then-is_blank-clause-found : goal.returns-then-is_blank-clause-found
returns-then-is_blank-clause-found c =
    let first = c.in_ok-first.ensures.cases in
    let blank : is_blank c.in_ok-first.first.now ≡ true = cc in
    blank_front _ _ _ _ (sym c.as_bytes.ensures.value ∙ first.0) blank c.split_at.ensures.back
