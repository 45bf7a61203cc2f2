use Rattle.std.proofs.Common.{length, ◌+◌}
use Rattle.rx_page.proofs.Pieces.{SoFar}
use Rattle.rx_page.proofs.changes.put_pieces.Given as goal

abbrev pub invariant-pieces : goal.invariant-pieces
invariant-pieces l = SoFar l.fn.old l.fn.new l.fn.html l.html l.left l.right

abbrev pub decreases-pieces : goal.decreases-pieces
decreases-pieces l = length l.left + length l.right
