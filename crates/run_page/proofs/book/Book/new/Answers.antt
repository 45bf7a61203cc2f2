use Rattle.run_page.proofs.Adding.{empty-told}
use Rattle.run_page.proofs.book.Book.new.Goals as goal

pub returns-clause-none : goal.returns-clause-none
returns-clause-none c = empty-told c.new.result c.new-2.result c.new-3.result c.new-4.result c.new.ensures.empty c.new-2.ensures.empty c.new-3.ensures c.new-4.ensures
