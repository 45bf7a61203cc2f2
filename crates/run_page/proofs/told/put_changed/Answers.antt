use Rattle.std.proofs.Common.{◌≡◌, ◌++◌}
use Rattle.run_page.specs.Told.{PutsChanged, kind_pane}
use Rattle.run_page.proofs.Puts.{on-ok}
use Rattle.run_page.proofs.Telling.{changed-put}
use Rattle.run_page.proofs.told.put_changed.Goals as goal

pub returns : goal.returns
returns c =
    on-ok c.put_kind_pane.result (c.put_kind_pane.new.html ≡ c.args.html.now ++ kind_pane c.args.kind.now c.args.caption.now c.put_element-2.new.self)
    (PutsChanged c.args.kind.now c.args.caption.now c.args.old.now c.args.new.now c.args.html.now c.put_kind_pane.new.html)
    (λ is. changed-put c.args.kind.now c.args.caption.now c.args.old.now c.args.new.now c.new-pieces.result c.put_changes.new.html c.new-content.result c.new.result c.put_element-2.new.self
    c.args.html.now c.put_kind_pane.new.html c.new-pieces.ensures.empty c.in_ok-put_changes.ensures c.new-content.ensures.empty c.new.ensures.empty c.in_ok-put_element.ensures.ok is)
    c.put_kind_pane.ensures
