use Rattle.std.proofs.Common.{◌≡◌}
use Rattle.rx_root.proofs.TakeBack.{claimed_times}
use Rattle.rx_root.proofs.events.take_back.Given as goal

abbrev pub invariant-claims : goal.invariant-claims
invariant-claims l = l.lanes ≡ claimed_times l._claim l.initial.lanes
