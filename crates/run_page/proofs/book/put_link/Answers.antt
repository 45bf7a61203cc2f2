use Rattle.std.proofs.Common.{◌≡◌, ◌++◌}
use Rattle.rx_page.specs.declared.tag.Tag.TheVariants as tag
use Rattle.rx_page.specs.Elements.{element}
use Rattle.run_page.specs.Views.{shown}
use Rattle.run_page.specs.Books.{link}
use Rattle.run_page.proofs.Puts.{on-ok}
use Rattle.run_page.proofs.Adding.{place-put}
use Rattle.run_page.proofs.book.put_link.Goals as goal

pub returns : goal.returns
returns c =
    on-ok c.put_element-3.result (c.put_element-3.new.self ≡ c.args.html.now ++ element tag.Item c.new.result c.put_yield.new.html)
    (c.put_element-3.new.self ≡ c.args.html.now ++ link c.args.number (shown c.args.view.now))
    (λ is. place-put c.args.number (shown c.args.view.now) c.deref.result.now c.deref-2.result.now c.new-words.result c.put_words.new.html c.new-href.result c.put_numbered.new.attributes
    c.new-item.result c.put_element.new.self c.put_marks.new.html c.put_yield.new.html c.new.result c.args.html.now c.put_element-3.new.self
    c.deref.ensures.value c.deref-2.ensures.value c.new-words.ensures.empty c.in_ok-put_words.ensures c.new-href.ensures.empty c.in_ok-put_numbered.ensures c.new-item.ensures.empty
    c.in_ok-put_element.ensures.ok c.in_ok-put_marks.ensures c.in_ok-put_yield.ensures c.new.ensures.empty is)
    c.put_element-3.ensures.ok
