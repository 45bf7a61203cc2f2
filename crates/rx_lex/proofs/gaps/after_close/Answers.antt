use Rattle.std.proofs.Common.{◌≡◌, ◌++◌, codes, take, length, sym, ap, ◌∙◌, take-append-drop, arith}
use Rattle.rx_lex.proofs.Fronts.{closed_first, lacks_everywhere}
use Rattle.rx_lex.proofs.gaps.after_close.Goals as goal

pub returns-in-Some-clause-found : goal.returns-in-Some-clause-found
returns-in-Some-clause-found c =
    let text = c.args.text.now in
    let found = c.in-Some.ensures.cases in
    let written : text ≡ take found.0 text ++ (codes "*/" ++ c.in-Some.rest.now) =
    sym (take-append-drop found.0 text) ∙ ap (λ l. take found.0 text ++ l) (found.2.1.split ∙ ap (λ l. codes "*/" ++ l) (sym found.4)) in
    let front_len : length (take found.0 text) ≡ found.0 = sym (ap length found.3) ∙ found.6 in
    (take found.0 text, written, closed_first text _ _ written (λ k lt. found.2.0 k (omega arith)))

pub returns-in-None-clause-none : goal.returns-in-None-clause-none
returns-in-None-clause-none c = lacks_everywhere (codes "*/") c.args.text.now c.in-None.ensures.cases
