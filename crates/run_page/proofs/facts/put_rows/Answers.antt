use Rattle.std.proofs.Common.{◌≡◌, ◌++◌}
use Rattle.std.specs.Prelude.{codes, decimal}
use Rattle.rx_base.specs.Values.{Text}
use Rattle.run_page.specs.Facts.{lanes_shown, next_shown, rendering_shown, row, rows}
use Rattle.run_page.proofs.Puts.{on-ok, put-more}
use Rattle.run_page.proofs.facts.put_rows.Goals as goal

pub returns : goal.returns
returns c =
    let v = c.args.facts.now in
    let start : Text = c.args.html.now in
    let one : Text = row (codes "Pending lanes") (lanes_shown v.pending) in
    let two : Text = row (codes "Suspended lanes") (lanes_shown v.suspended) in
    let three : Text = row (codes "Expired lanes") (lanes_shown v.expired) in
    let four : Text = row (codes "Render in progress") (rendering_shown v.rendering) in
    let five : Text = row (codes "The next turn") (next_shown v.next) in
    let six : Text = row (codes "Hidden boundaries") (decimal v.hidden) in
    let seven : Text = row (codes "Time") (decimal v.time) in
    on-ok c.put_count-2.result (c.put_count-2.new.html ≡ c.put_count.new.html ++ seven) (c.put_count-2.new.html ≡ start ++ rows v)
    (λ is_seven.
    put-more start c.put_count.new.html c.put_count-2.new.html (one ++ two ++ three ++ four ++ five ++ six) seven
    (put-more start c.put_next.new.html c.put_count.new.html (one ++ two ++ three ++ four ++ five) six
    (put-more start c.put_rendering.new.html c.put_next.new.html (one ++ two ++ three ++ four) five
    (put-more start c.put_lanes-3.new.html c.put_rendering.new.html (one ++ two ++ three) four
    (put-more start c.put_lanes-2.new.html c.put_lanes-3.new.html (one ++ two) three
    (put-more start c.put_lanes.new.html c.put_lanes-2.new.html one two c.in_ok-put_lanes.ensures c.in_ok-put_lanes-2.ensures) c.in_ok-put_lanes-3.ensures) c.in_ok-put_rendering.ensures) c.in_ok-put_next.ensures) c.in_ok-put_count.ensures) is_seven)
    c.put_count-2.ensures
