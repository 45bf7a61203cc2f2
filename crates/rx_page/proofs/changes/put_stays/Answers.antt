use Rattle.std.proofs.Common.{rules, arith, ◌≡◌, ◌∙◌, ◌++◌, ◌<◌, length, sym, subst, ap, []}
use Rattle.std.specs.Prelude.{OnOk, ◌≢◌, codes, decimal}
use Rattle.rx_base.specs.Values.{Text}
use Rattle.rx_page.specs.declared.tag.Tag.TheVariants as tag
use Rattle.rx_page.specs.Escaping.{escaped}
use Rattle.rx_page.specs.Elements.{element}
use Rattle.rx_page.specs.Changes.{lines_in, stays_html}
use Rattle.rx_page.proofs.Pieces.{long-stays}
use Rattle.rx_page.proofs.changes.put_stays.Goals as goal

pub returns : goal.returns
returns c =
    let text : Text = c.args.text.now in
    let words : c.deref.result.now ≡ codes "lines as before: " ++ decimal c.line_count-lines.result ++ codes "\n" = search rules in
    let lines : c.line_count-lines.result ≡ lines_in text = c.line_count-lines.ensures in
    let long : 400 < length text = omega (arith, c.if-text-le-SHORT.false) in
    let some : length text ≢ 0 = λ e. omega (arith, e, long) in
    let lined : lines_in text ≢ 0 = λ e. c.if-lines-eq0.false (lines ∙ e) in
    subst (λ (t : Text). OnOk c.put_words-2.result (c.put_words-2.new.html ≡ c.args.html.now ++ t))
    (ap (λ (t : Text). element tag.Small [] (escaped t)) (words ∙ ap (λ n. codes "lines as before: " ++ decimal n ++ codes "\n") lines)
    ∙ sym (long-stays text some long lined))
    c.put_words-2.ensures
