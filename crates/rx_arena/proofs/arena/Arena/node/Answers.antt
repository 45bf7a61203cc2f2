use Rattle.std.proofs.Common.{ap}
use Rattle.rx_arena.specs.Nodes.{alternate_in}
use Rattle.rx_arena.proofs.Mutual.{some-links}
use Rattle.rx_arena.proofs.arena.Arena.node.Goals as goal

pub returns-clause-live : goal.returns-clause-live
returns-clause-live g c =
    let h = some-links _ _ _ c.self.invariant (ap alternate_in c.node_at.ensures) in rw c.self.view_is at h
