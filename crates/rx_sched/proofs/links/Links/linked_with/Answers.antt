use Rattle.std.proofs.Common.{◌∙◌, ap, sym}
use Rattle.rx_lane.specs.Lanes.{minus}
use Rattle.rx_sched.proofs.Following.{one_followed, fewer_left}
use Rattle.rx_sched.proofs.links.Links.linked_with.Goals as goal

pub loop-lane-smaller : goal.loop-lane-smaller
loop-lane-smaller c = fewer_left c.loop-lane.left c.in-Some.lane c.minus-left.result (sym c.highest.ensures ∙ c.in-Some.is) (c.minus-left.ensures ∙ ap (minus c.loop-lane.left) c.one.ensures)

pub loop-lane-preserved : goal.loop-lane-preserved
loop-lane-preserved c =
    one_followed c.args.self.now c.loop-lane.found c.loop-lane.left c.args.lanes c.in-Some.lane c.of.result c.union-found.result c.minus-left.result c.loop-lane.invariant
    (sym c.highest.ensures ∙ c.in-Some.is) c.of.ensures c.union-found.ensures (c.minus-left.ensures ∙ ap (minus c.loop-lane.left) c.one.ensures)
