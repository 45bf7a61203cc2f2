use Rattle.std.proofs.Common.{◌≡◌, map, take}
use Rattle.rx_compare.specs.Matched.{element_at}
use Rattle.rx_compare.proofs.lists.elements_of.Given as goal

-- the elements so far
abbrev pub invariant-loop-place : goal.invariant-loop-place
invariant-loop-place l = l.elements.items ≡ map element_at (take l.place-index l.nodes)
