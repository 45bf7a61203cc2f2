use Rattle.rx_beside.proofs.Placing.{left_goes, pair_goes}
use Rattle.rx_beside.proofs.places.add_pair.Goals as goal

pub returns-then-is_left : goal.returns-then-is_left
returns-then-is_left c =
    left_goes c.args.tree.now c.args.displaced c.args.pair.now c.args.place c.in-Some.at c.in-Some.ensures.pair c.in-Some.ensures.stand c.if-at-place.false c.args.pairs.now.items
    _ c.in_ok-fill.ensures (c.is_left.ensures.still c.if-is_left.true) (c.is_left.ensures.same c.if-is_left.true) (c.is_left.ensures.present c.if-is_left.true)

pub returns : goal.returns
returns c =
    pair_goes c.args.tree.now c.args.displaced c.args.pair.now c.args.place c.in-Some.at c.in-Some.ensures.pair c.in-Some.ensures.stand c.if-at-place.false c.args.pairs.now.items
    _ _ c.in_ok-fill-2.ensures c.in_ok-push.ensures.items (c.is_same.ensures c.if-not-is_same.false)
