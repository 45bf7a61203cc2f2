use Rattle.std.proofs.Common.{◌∙◌, arith}
use Rattle.rx_host_ops.specs.Beside.{change_of}
use Rattle.rx_host_ops.proofs.InPlace.{as_many, beside-more, beside-end}
use Rattle.rx_host_ops.proofs.between.add_all_changes.Goals as goal

pub bounds-old-place : goal.bounds-old-place
bounds-old-place c = omega (arith, as_many c.args.old.now c.args.new.now c.requires, c.loop-place-test.true)

pub loop-place-preserved : goal.loop-place-preserved
loop-place-preserved c =
    let old = c.args.old.now in
    let new = c.args.new.now in
    beside-more change_of old new c.loop-place.place c.index-old-place.result c.index-new-place.result c.loop-place.ops.items c.add_change.new.ops.items
    (omega (arith, as_many old new c.requires, c.loop-place-test.true)) c.loop-place-test.true c.index-old-place.is c.index-new-place.is c.in_ok-add_change.ensures
    ∙ c.loop-place.invariant

pub returns : goal.returns
returns c = beside-end change_of c.args.old.now c.args.new.now c.loop-place.place c.loop-place.ops.items _ (omega (arith, c.loop-place-test.false)) c.loop-place.invariant
