use Rattle.std.proofs.Common.{◌≡◌, length, take}
use Rattle.rx_elem.specs.Trees.{forest}
use Rattle.rx_compare.specs.InPlace.{AreInPlace}
use Rattle.rx_compare.proofs.lists.are_in_place.Given as goal

-- the lists are as long, and so far each new child is the old one at its place
abbrev pub invariant-loop-place : goal.invariant-loop-place
invariant-loop-place l = (length l.old ≡ length l.new) × AreInPlace (forest (take l.place l.old)) (forest (take l.place l.new))
