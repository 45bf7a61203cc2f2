use Rattle.std.proofs.Common.{◌≡◌, ◌++◌, ◌-◌, length}
use Rattle.std.specs.Prelude.{Result, Ok, Err, OnOk}
use Rattle.rx_page.specs.Changes.{PutsChanges, stays_html}
use Rattle.rx_page.proofs.Pieces.{changes-end}
use Rattle.rx_page.proofs.Nesting.{on-ok}
use Rattle.rx_page.proofs.changes.put_changes.Goals as goal

pub returns : goal.returns
returns c =
    on-ok c.put_stays.result (c.put_stays.new.html ≡ c.put_pieces.new.html ++ stays_html c.split_at.result.1.now)
    (PutsChanges c.args.old.now c.args.new.now c.args.html.now c.put_stays.new.html)
    (λ is.
    changes-end c.args.old.now c.args.new.now c.args.html.now c.put_pieces.new.html c.put_stays.new.html c.split_at.result.0.now c.split_at-2.result.0.now c.split_at.result.1.now
    (length c.args.old.now - c.same_ending-ending.result) (length c.args.new.now - c.same_ending-ending.result)
    c.in_ok-put_pieces.ensures c.same_ending-ending.ensures.same c.split_at.ensures.front c.split_at.ensures.back c.split_at-2.ensures.front is)
    c.put_stays.ensures
