use Rattle.std.specs.Prelude.{vec_len}
use Rattle.rx_host.proofs.Settled.{stands-empty}
use Rattle.rx_host.proofs.tree.HostTree.new.Goals as goal

pub invariant_of-result : goal.invariant_of-result
invariant_of-result c = (stands-empty c.new.result (vec_len c.new-2.result) c.new.ensures.hosts c.new.ensures.first c.new.ensures.last).sound

pub returns : goal.returns
returns c = (stands-empty c.new.result (vec_len c.new-2.result) c.new.ensures.hosts c.new.ensures.first c.new.ensures.last).forest
