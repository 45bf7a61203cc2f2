use Rattle.std.proofs.Common.{take}
use Rattle.rx_root.proofs.Overdue.{HasOverdue}
use Rattle.rx_root.proofs.root.Root.overdue.Given as goal

abbrev pub invariant-lanes : goal.invariant-lanes
invariant-lanes l = HasOverdue l.self.schedule l.self.now (take l.lane-index l.lane-items) l.lanes
