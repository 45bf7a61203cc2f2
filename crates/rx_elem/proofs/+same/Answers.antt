use Rattle.std.proofs.Common.{arith}
use Rattle.rx_elem.proofs.Pairs.{same_elements-unequal, depth-get}
use Rattle.rx_elem.proofs.+same.Goals as goal

pub walks::same_children-returns-then-ours-theirs : goal.walks::same_children-returns-then-ours-theirs
walks::same_children-returns-then-ours-theirs t c = same_elements-unequal c.args.ours.now c.args.theirs.now c.if-ours-theirs.true

pub walks::same_children-same-requires : goal.walks::same_children-same-requires
walks::same_children-same-requires t c =
    (omega (arith, depth-get c.args.ours.now c.loop-place.place c.index-ours-place.result c.loop-place-test.true c.index-ours-place.is), tt)
