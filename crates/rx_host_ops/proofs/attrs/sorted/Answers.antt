use Rattle.std.proofs.Common.{refl}
use Rattle.rx_host_ops.proofs.Sorting.{sorted-more}
use Rattle.rx_host_ops.proofs.attrs.sorted.Goals as goal

pub loop-place-preserved : goal.loop-place-preserved
loop-place-preserved c =
    sorted-more c.args.attrs.now c.loop-place.place c.index-attrs-place.result _ c.place_of-before.result c.loop-place.sorted.items c.deref.result.now c.insert.new.self.items
    c.loop-place-test.true c.loop-place.auto.place c.index-attrs-place.is refl c.deref.ensures.value
    (c.place_of-before.ensures.put c.index-attrs-place.result refl) c.in_ok-insert.ensures.items c.loop-place.invariant
