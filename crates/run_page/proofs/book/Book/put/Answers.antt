use Rattle.std.proofs.Common.{◌+◌, subst}
use Rattle.run_page.specs.Views.{shown}
use Rattle.run_page.specs.Books.{Book, Adds, one_more}
use Rattle.run_page.proofs.Adding.{step-added}
use Rattle.run_page.proofs.book.Book.put.Goals as goal

pub returns-clause-adds : goal.returns-clause-adds
returns-clause-adds c =
    let inside : Book = record { links = c.self.inside.links; sections = c.self.inside.sections; count = c.self.inside.count; tree = c.self.inside.tree; hooks = c.self.inside.hooks } in
    let after : Book = record { links = c.put_link.new.html; sections = c.put_section.new.html; count = c.self.inside.count + 1; tree = c.put.new.self; hooks = c.put-2.new.self } in
    subst (λ (t : Book). Adds (shown c.args.view.now) t after) c.self.view_is
    (step-added (shown c.args.view.now) inside c.put_link.new.html c.put_section.new.html c.put.new.self c.put-2.new.self
    c.new-panes.result c.put_lines.new.html c.put_table.new.html c.put.new.html c.put-2.new.html c.deref.result.now c.deref-2.result.now c.deref-3.result.now
    c.new-panes.ensures.empty c.in_ok-put_lines.ensures c.in_ok-put_table.ensures c.deref.ensures.value c.deref-2.ensures.value c.deref-3.ensures.value
    c.in_ok-put.ensures c.in_ok-put-2.ensures c.in_ok-put_link.ensures c.in_ok-put_section.ensures)

pub returns-clause-told : goal.returns-clause-told
returns-clause-told c = λ before are. one_more before _ _ _ are (returns-clause-adds c)
