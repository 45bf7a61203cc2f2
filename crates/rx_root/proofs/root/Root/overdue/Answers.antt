use Rattle.std.proofs.Common.{ap}
use Rattle.rx_lane.specs.Lanes.{Lanes, all_lanes, has}
use Rattle.rx_root.proofs.Overdue.{overdue-step, overdue-all}
use Rattle.rx_root.proofs.root.Root.overdue.Goals as goal

pub lanes-init : goal.lanes-init
lanes-init c = λ l. ap (λ (s : Lanes). has s l) c.none-lanes.ensures

pub lanes-preserved : goal.lanes-preserved
lanes-preserved c =
    overdue-step c.args.self.now.schedule c.args.self.now.now all_lanes c.lanes.lanes c.with_lane-lanes.result c.lanes.lane-index c.is_overdue.result
    c.lanes-test.true c.lanes.invariant c.is_overdue.ensures c.with_lane-lanes.ensures

pub returns : goal.returns
returns c = overdue-all c.args.self.now.schedule c.args.self.now.now c.lanes.lanes c.lanes.lane-index c.lanes-test.false c.lanes.invariant
