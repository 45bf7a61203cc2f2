use Rattle.std.proofs.Common.{◌≡◌, ◌+◌, sym, ap, ◌∙◌, rules, lit<, IsUtf8}
use Rattle.std.specs.Str.{bytes_eq}
use Rattle.rx_lex.specs.Tokens.{is_text_of, second_text}
use Rattle.rx_lex.specs.Spans.{bytes_at, kind_in}
use Rattle.rx_lex.proofs.Cuts.{string_eq}
use Rattle.rx_lex.proofs.lexer.is_second_text.Goals as goal

pub returns-in-Text : goal.returns-in-Text
returns-in-Text c =
    let text = c.args.text.now in
    let utf8 : IsUtf8 second_text = search rules in
    let place = c.args.token.place in
    let content : c.bytes_at-content.result.now ≡ bytes_at c.in-Text.len (place + 1) text = c.bytes_at-content.ensures ∙ ap (bytes_at c.in-Text.len (place + 1)) c.as_bytes.ensures.value in
    c.eq.ensures ∙ (λ i. bytes_eq (content i) (c.as_slice.ensures i)) ∙ sym (string_eq c.in-Text.len place text second_text utf8 (lit< tt))
    ∙ ap (λ shape. is_text_of second_text (kind_in text (record { shape = shape; place = place }))) (sym c.in-Text.is)
