use Rattle.std.proofs.Common.{◌≡◌, ◌-◌, Err, length, get_or, sym, ap, ◌∙◌, subst, arith}
use Rattle.rx_lex.specs.Tokens.{kinds, end_mark}
use Rattle.rx_lex.specs.Spans.{kinds_of, tokens_of}
use Rattle.rx_print.specs.Levels.{level_limit}
use Rattle.rx_grammar.specs.Reading.{program_at}
use Rattle.rx_expression.specs.Results.{Fails}
use Rattle.rx_parse.specs.Faults.{IsFirstFault}
use Rattle.rx_parse.proofs.Top.{found_has, fault_in, left_len, read_of, same_program, none_has}
use Rattle.rx_parse.proofs.parser.parse.Goals as goal

pub overflow_sub-len : goal.overflow_sub-len
overflow_sub-len c =
    let ts = tokens_of c.args.tokens.now in
    let stops : program_at level_limit (kinds_of c.rest-rest.result) ≡ Err c.in-Err-Syntax.left = subst (λ e. Fails e (program_at level_limit (kinds_of c.rest-rest.result))) c.in-Err-Syntax.field-0-is c.in-Err-Syntax.ensures in
    let f = fault_in ts c.in-Err-Syntax.left c.requires (read_of (program_at level_limit) c.rest-rest.result ts _ c.rest-rest.ensures stops) in
    omega (arith, f.within, left_len c.rest-rest.result ts c.rest-rest.ensures, c.len.ensures)

pub place-requires : goal.place-requires
place-requires c =
    let ts = tokens_of c.args.tokens.now in
    let stops : program_at level_limit (kinds_of c.rest-rest.result) ≡ Err c.in-Err-Syntax.left = subst (λ e. Fails e (program_at level_limit (kinds_of c.rest-rest.result))) c.in-Err-Syntax.field-0-is c.in-Err-Syntax.ensures in
    let f = fault_in ts c.in-Err-Syntax.left c.requires (read_of (program_at level_limit) c.rest-rest.result ts _ c.rest-rest.ensures stops) in
    omega (arith, f.some, f.within, left_len c.rest-rest.result ts c.rest-rest.ensures, c.len.ensures)

pub returns-in-Ok-clause-found : goal.returns-in-Ok-clause-found
returns-in-Ok-clause-found c =
    let ts = tokens_of c.args.tokens.now in
    found_has ts _ _ c.requires (read_of (program_at level_limit) c.rest-rest.result ts _ c.rest-rest.ensures c.in-Ok.ensures)

pub returns-in-Ok-clause-only : goal.returns-in-Ok-clause-only
returns-in-Ok-clause-only c = λ p has.
    let ts = tokens_of c.args.tokens.now in
    same_program _ p (kinds ts) _ (read_of (program_at level_limit) c.rest-rest.result ts _ c.rest-rest.ensures c.in-Ok.ensures) has

pub returns-in-Err-Syntax-clause-only : goal.returns-in-Err-Syntax-clause-only
returns-in-Err-Syntax-clause-only c = λ p has.
    let ts = tokens_of c.args.tokens.now in
    let stops : program_at level_limit (kinds_of c.rest-rest.result) ≡ Err c.in-Err-Syntax.left = subst (λ e. Fails e (program_at level_limit (kinds_of c.rest-rest.result))) c.in-Err-Syntax.field-0-is c.in-Err-Syntax.ensures in
    absurd (none_has p (kinds ts) c.in-Err-Syntax.left (read_of (program_at level_limit) c.rest-rest.result ts _ c.rest-rest.ensures stops) has)

pub returns-in-Err-Syntax-clause-fault : goal.returns-in-Err-Syntax-clause-fault
returns-in-Err-Syntax-clause-fault c =
    let ts = tokens_of c.args.tokens.now in
    let left = c.in-Err-Syntax.left in
    let stops : program_at level_limit (kinds_of c.rest-rest.result) ≡ Err left = subst (λ e. Fails e (program_at level_limit (kinds_of c.rest-rest.result))) c.in-Err-Syntax.field-0-is c.in-Err-Syntax.ensures in
    let f = fault_in ts left c.requires (read_of (program_at level_limit) c.rest-rest.result ts _ c.rest-rest.ensures stops) in
    let index : length ts - left ≡ c.len.result - left = ap (λ n. n - left) (sym (c.len.ensures ∙ left_len c.rest-rest.result ts c.rest-rest.ensures)) in
    let place : (get_or ts (length ts - left) (end_mark 0)).place ≡ c.place.result = ap (λ i. (get_or ts i (end_mark 0)).place) index ∙ sym (c.place.ensures (end_mark 0)) in
    subst (λ at. IsFirstFault at ts) place (f.fault (end_mark 0))
