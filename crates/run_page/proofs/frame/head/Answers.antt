use Rattle.std.proofs.Common.{◌≡◌, ◌∙◌, ◌++◌, ap}
use Rattle.std.specs.Prelude.{codes}
use Rattle.rx_base.specs.Values.{Text}
use Rattle.rx_page.specs.declared.tag.Tag.TheVariants as tag
use Rattle.rx_page.specs.declared.tag.AttributeName.TheVariants as name
use Rattle.rx_page.specs.Elements.{attribute, meta}
use Rattle.run_page.specs.Frames.{policy, words}
use Rattle.run_page.specs.declared.frame.TheConstants.{STYLE}
use Rattle.run_page.proofs.Telling.{put-alone}
use Rattle.run_page.proofs.frame.head.Goals as goal

pub returns : goal.returns
returns c =
    let charset : Text = attribute name.Charset (codes "utf-8") in
    let width : Text = meta (attribute name.NameOf (codes "viewport") ++ attribute name.Content (codes "width=device-width, initial-scale=1")) in
    let title : Text = words tag.Title (codes "A run, step by step") in
    let style : Text = words tag.Style STYLE.now in
    let one : c.put_meta.new.self ≡ meta charset =
    put-alone c.new-html.result c.put_meta.new.self (meta charset) c.new-html.ensures.empty (c.in_ok-put_meta.ensures.ok ∙ ap (λ (t : Text). c.new-html.result ++ meta t) c.in_ok-one_attribute.ensures) in
    let two : c.put_two.new.html ≡ meta charset ++ width = c.in_ok-put_two.ensures ∙ ap (λ (t : Text). t ++ width) one in
    let three : c.put_two-2.new.html ≡ meta charset ++ width ++ policy = c.in_ok-put_two-2.ensures ∙ ap (λ (t : Text). t ++ policy) two in
    let four : c.put_words.new.html ≡ meta charset ++ width ++ policy ++ title = c.in_ok-put_words.ensures ∙ ap (λ (t : Text). t ++ title) three in
    c.in_ok-put_words-2.ensures ∙ ap (λ (t : Text). t ++ style) four
