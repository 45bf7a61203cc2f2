use Rattle.rx_sched.proofs.Steps.{whole_start}
use Rattle.rx_sched.proofs.root_lanes.RootLanes.next.Goals as goal

pub returns-else-goes_on-clause-whole : goal.returns-else-goes_on-clause-whole
returns-else-goes_on-clause-whole c = λ lanes e.
    whole_start c.args.self.now c.first_lanes-first.result c.lanes_to_start.result lanes c.first_lanes-first.ensures c.lanes_to_start.ensures e
