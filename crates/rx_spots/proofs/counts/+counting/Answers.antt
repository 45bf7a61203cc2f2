use Rattle.std.proofs.Common.{arith}
use Rattle.rx_spots.proofs.Lists.{height-get}
use Rattle.rx_spots.proofs.counts.+counting.Goals as goal

pub counted_in-counted_from-requires : goal.counted_in-counted_from-requires
counted_in-counted_from-requires t c =
    (omega (arith, height-get c.args.places.now c.loop-place.place-index c.place-item.result c.in-Some.node c.loop-place-test.true c.place-item.is c.in-Some.is), tt)
