use Rattle.std.proofs.Common.{◌≡◌, true, false, Some, lit<, sym, ap, ◌∙◌}
use Rattle.std.specs.List.{list_all}
use Rattle.std.proofs.lemmas.Str.Pattern.{strip_prefix_char, split_parts}
use Rattle.rx_lex.specs.Tokens.{is_inside}
use Rattle.rx_lex.proofs.Quotes.{no_open_string, no_closed_string, string_front, no_string_inside}
use Rattle.rx_lex.proofs.strings.split_string.Goals as goal

pub returns-in_default-clause-none : goal.returns-in_default-clause-none
returns-in_default-clause-none c =
    let none = rw c.in_default.is at (strip_prefix_char 34 c.args.text.now c.strip_prefix.result c.strip_prefix.ensures.cases (lit< tt)) in
    no_open_string c.args.text.now none

pub returns-in_default-split_once-clause-none : goal.returns-in_default-split_once-clause-none
returns-in_default-split_once-clause-none c =
    let opened = strip_prefix_char 34 c.args.text.now (Some c.in-Some.body) c.in-Some.ensures.cases (lit< tt) in
    let none = rw c.in_default-split_once.is at (split_parts 34 c.in-Some.body.now c.split_once.result c.split_once.ensures.cases (lit< tt)) in
    no_closed_string c.args.text.now c.in-Some.body.now opened none

pub returns-then-are_inside-clause-found : goal.returns-then-are_inside-clause-found
returns-then-are_inside-clause-found c =
    let opened = strip_prefix_char 34 c.args.text.now (Some c.in-Some.body) c.in-Some.ensures.cases (lit< tt) in
    let parts = rw c.in-Some-split_once.is at (split_parts 34 c.in-Some.body.now c.split_once.result c.split_once.ensures.cases (lit< tt)) in
    let same : c.as_bytes.result.now ≡ c.in-Some-split_once.content.now = c.as_bytes.ensures.value in
    let inside : list_all is_inside c.in-Some-split_once.content.now ≡ true = ap (list_all is_inside) (sym same) ∙ sym c.are_inside.ensures ∙ c.if-are_inside.true in
    string_front c.args.text.now c.in-Some.body.now c.in-Some-split_once.content.now c.in-Some-split_once.rest.now opened parts.0 inside

pub returns-else-are_inside-clause-none : goal.returns-else-are_inside-clause-none
returns-else-are_inside-clause-none c =
    let opened = strip_prefix_char 34 c.args.text.now (Some c.in-Some.body) c.in-Some.ensures.cases (lit< tt) in
    let parts = rw c.in-Some-split_once.is at (split_parts 34 c.in-Some.body.now c.split_once.result c.split_once.ensures.cases (lit< tt)) in
    let same : c.as_bytes.result.now ≡ c.in-Some-split_once.content.now = c.as_bytes.ensures.value in
    let outside : list_all is_inside c.in-Some-split_once.content.now ≡ false = ap (list_all is_inside) (sym same) ∙ sym c.are_inside.ensures ∙ c.if-are_inside.false in
    no_string_inside c.args.text.now c.in-Some.body.now c.in-Some-split_once.content.now c.in-Some-split_once.rest.now opened parts.0 parts.1 outside
