use Rattle.std.proofs.Common.{◌≡◌, ◌++◌, rules}
use Rattle.std.specs.Prelude.{codes, decimal}
use Rattle.rx_page.specs.declared.tag.Tag.TheVariants as tag
use Rattle.rx_page.specs.Elements.{element}
use Rattle.run_page.specs.Told.{step_link}
use Rattle.run_page.proofs.Puts.{on-ok}
use Rattle.run_page.proofs.Telling.{link-put}
use Rattle.run_page.proofs.told.put_step_link.Goals as goal

pub returns : goal.returns
returns c =
    let words : c.deref.result.now ≡ codes "step " ++ decimal c.args.step = search rules in
    on-ok c.put_element.result (c.put_element.new.self ≡ c.args.html.now ++ element tag.Link c.put_numbered.new.attributes c.put_text.new.self)
    (c.put_element.new.self ≡ c.args.html.now ++ step_link c.args.step)
    (λ is. link-put c.args.step c.deref.result.now c.new-content.result c.put_text.new.self c.new-href.result c.put_numbered.new.attributes c.args.html.now c.put_element.new.self
    words c.new-content.ensures.empty c.in_ok-put_text.ensures.ok c.new-href.ensures.empty c.in_ok-put_numbered.ensures is)
    c.put_element.ensures.ok
