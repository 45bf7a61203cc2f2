use Rattle.std.proofs.Common.{vec_len}
use Rattle.rx_host.proofs.Settled.{stands-same}
use Rattle.rx_host.proofs.tree.HostTree.reserve.Goals as goal

pub invariant_of-self : goal.invariant_of-self
invariant_of-self c =
    let cells = vec_len c.self.inside.cells in
    (stands-same c.self.inside.table c.reserve.new.self cells cells c.self.invariant c.reserve.ensures.hosts c.reserve.ensures.first c.reserve.ensures.last).sound

pub invariant_of-self-2 : goal.invariant_of-self-2
invariant_of-self-2 c =
    let cells = vec_len c.self.inside.cells in
    (stands-same c.self.inside.table c.reserve.new.self cells (vec_len c.fill.new.cells) c.self.invariant c.reserve.ensures.hosts c.reserve.ensures.first c.reserve.ensures.last).sound
