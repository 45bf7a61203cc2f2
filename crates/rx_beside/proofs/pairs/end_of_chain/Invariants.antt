use Rattle.std.proofs.Common.{◌≡◌, true, false, Some}
use Rattle.rx_lists.specs.Shapes.{size}
use Rattle.rx_read.specs.Lists.{list_of}
use Rattle.rx_beside.specs.Pairs.{IsBare, PassesTo}
use Rattle.rx_beside.proofs.pairs.end_of_chain.Given as goal

-- the chain so far is passed, and it is known of its end whether that is bare
abbrev pub invariant-passing : goal.invariant-passing
invariant-passing l = PassesTo l.tree false l.only.pair l.end.pair × (l.end.bare ≡ true → IsBare l.tree l.end.pair)

abbrev pub decreases-passing : goal.decreases-passing
decreases-passing l = size (list_of l.tree (Some l.end.pair.new))
