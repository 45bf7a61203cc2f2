use Rattle.std.proofs.Common.{◌≡◌, map, take}
use Rattle.rx_read.specs.Lists.{list_of}
use Rattle.rx_read.specs.Places.{first_node}
use Rattle.rx_beside.specs.Slots.{with_gone}
use Rattle.rx_beside.proofs.lists.with_gone.Given as goal

-- the places so far
abbrev pub invariant-going : goal.invariant-going
invariant-going l = l.whole.items ≡ take l.i (with_gone l.nodes (map (λ o. first_node (list_of l.tree o)) l.olds))
