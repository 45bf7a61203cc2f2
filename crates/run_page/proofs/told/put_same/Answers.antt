use Rattle.std.proofs.Common.{◌≡◌, ◌++◌}
use Rattle.run_page.specs.Told.{kind_pane, same_pane}
use Rattle.run_page.proofs.Puts.{on-ok}
use Rattle.run_page.proofs.Telling.{same-put}
use Rattle.run_page.proofs.told.put_same.Goals as goal

pub returns : goal.returns
returns c =
    on-ok c.put_kind_pane.result (c.put_kind_pane.new.html ≡ c.args.html.now ++ kind_pane c.args.kind.now c.args.caption.now c.put_element-2.new.self)
    (c.put_kind_pane.new.html ≡ c.args.html.now ++ same_pane c.args.kind.now c.args.caption.now c.args.step)
    (λ is. same-put c.args.kind.now c.args.caption.now c.args.step c.new-sentence.result c.put_text.new.self c.put_step_link.new.html c.put_text-2.new.self c.new-content.result c.new.result c.put_element-2.new.self
    c.args.html.now c.put_kind_pane.new.html c.new-sentence.ensures.empty c.in_ok-put_text.ensures.ok c.in_ok-put_step_link.ensures c.in_ok-put_text-2.ensures.ok
    c.new-content.ensures.empty c.new.ensures.empty c.in_ok-put_element.ensures.ok is)
    c.put_kind_pane.ensures
