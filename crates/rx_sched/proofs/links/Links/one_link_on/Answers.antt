use Rattle.std.proofs.Common.{◌∙◌, ap}
use Rattle.rx_lane.specs.Lanes.{union, intersection}
use Rattle.rx_sched.proofs.Reach.{round_of_sets}
use Rattle.rx_sched.proofs.links.Links.one_link_on.Goals as goal

pub returns : goal.returns
returns c =
    c.union.ensures
    ∙ ap (union c.args.lanes) (c.intersection.ensures ∙ ap (intersection c.args.pending) c.linked_with.ensures)
    ∙ round_of_sets c.args.self.now c.args.pending c.args.lanes
