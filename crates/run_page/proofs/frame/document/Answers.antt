use Rattle.std.proofs.Common.{◌≡◌, ◌∙◌, [], ◌++◌, ap}
use Rattle.std.specs.Prelude.{codes}
use Rattle.rx_base.specs.Values.{Text}
use Rattle.rx_page.specs.declared.tag.Tag.TheVariants as tag
use Rattle.rx_page.specs.declared.tag.AttributeName.TheVariants as name
use Rattle.rx_page.specs.Elements.{attribute, element}
use Rattle.run_page.specs.Frames.{body, head}
use Rattle.run_page.proofs.Telling.{put-alone}
use Rattle.run_page.proofs.frame.document.Goals as goal

pub returns : goal.returns
returns c =
    let inside : Text = body c.args.input.now c.args.book.now.links c.args.book.now.sections in
    let front : Text = element tag.Head [] head in
    let back : Text = element tag.Body [] inside in
    let is_inside : c.put_body.new.html ≡ inside = put-alone c.new-body.result c.put_body.new.html inside c.new-body.ensures.empty c.in_ok-put_body.ensures in
    let is_front : c.put_element.new.self ≡ front =
    put-alone c.new-parts.result c.put_element.new.self front c.new-parts.ensures.empty
    (c.in_ok-put_element.ensures.ok ∙ ap (λ (t : Text). c.new-parts.result ++ element tag.Head t c.in_ok-head.field-0) c.new.ensures.empty ∙ ap (λ (t : Text). c.new-parts.result ++ element tag.Head [] t) c.in_ok-head.ensures) in
    let is_parts : c.put_element-2.new.self ≡ front ++ back =
    c.in_ok-put_element-2.ensures.ok ∙ ap (λ (t : Text). c.put_element.new.self ++ element tag.Body t c.put_body.new.html) c.new-2.ensures.empty
    ∙ ap (λ (t : Text). c.put_element.new.self ++ element tag.Body [] t) is_inside ∙ ap (λ (t : Text). t ++ back) is_front in
    let whole : Text → Text = λ t. element tag.Document (attribute name.Lang (codes "en")) t in
    put-alone c.new-html.result c.put_with.new.html (whole (front ++ back)) c.new-html.ensures.empty
    (c.in_ok-put_with.ensures ∙ ap (λ (t : Text). c.new-html.result ++ whole t) is_parts)
