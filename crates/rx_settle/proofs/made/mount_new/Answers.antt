use Rattle.std.proofs.Common.{refl}
use Rattle.std.proofs.lemmas.Option.{slice_get_read}
use Rattle.rx_settle.proofs.Making.{make_more}
use Rattle.rx_settle.proofs.made.mount_new.Goals as goal

pub mounting-preserved : goal.mounting-preserved
mounting-preserved c =
    make_more c.args.first c.args.instances.now c.mounting.made.items c.mount_one.new.made.items c.mounting.instance-index c.instance-item.result
    (slice_get_read c.args.instances.now _ c.mounting.instance-index c.instance-item.result refl c.mounting-test.true c.instance-item.is)
    c.mounting.invariant c.in_ok-mount_one.ensures
