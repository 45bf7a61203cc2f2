use Rattle.rx_page.proofs.Pieces.{so_far-step}
use Rattle.rx_page.proofs.changes.put_pieces.Goals as goal

pub pieces-preserved : goal.pieces-preserved
pieces-preserved c =
    so_far-step c.args.old.now c.args.new.now c.args.html.now c.pieces.html c.put_stays.new.html c.put_marked.new.html c.put_marked-in-pieces.new.html c.pieces.left.now c.pieces.right.now
    c.split_at.result.0.now c.split_at.result.1.now c.split_at-in-pieces.result.1.now c.split_at-in-pieces-2.result.0.now c.split_at-in-pieces-2.result.1.now
    c.split_at-in-pieces-3.result.0.now c.split_at-in-pieces-3.result.1.now c.same_beginning-alike.result
    c.pieces.invariant c.same_beginning-alike.ensures.same c.split_at.ensures.front c.split_at.ensures.back c.split_at-in-pieces.ensures.back
    c.split_at-in-pieces-2.ensures.by_index.0 c.split_at-in-pieces-3.ensures.by_index.0 c.in_ok-put_stays.ensures c.in_ok-put_marked.ensures c.in_ok-put_marked-2.ensures
