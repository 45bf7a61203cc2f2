use Rattle.rx_settle.specs.Made.{AreMadeFor}
use Rattle.rx_settle.proofs.made.mount_new.Given as goal

abbrev pub invariant-mounting : goal.invariant-mounting
invariant-mounting l = AreMadeFor l.first l.instances l.instance-index l.made.items
