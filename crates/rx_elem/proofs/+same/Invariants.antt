use Rattle.std.proofs.Common.{◌≡◌, ◌+◌, ◌*◌, length, drop}
use Rattle.rx_elem.specs.Elements.{depth, depth_in, gathered, same_elements}
use Rattle.rx_elem.proofs.+same.Given as goal

abbrev pub decreases-element::Element::same : goal.decreases-element::Element::same
decreases-element::Element::same l = 2 * depth l.self.now + 1

abbrev pub decreases-walks::same_children : goal.decreases-walks::same_children
decreases-walks::same_children l = 2 * depth_in (gathered l.ours.now) + 2

-- the lists are as long, and are equal exactly if they are from here on
abbrev pub invariant-walks::same_children-loop-place : goal.invariant-walks::same_children-loop-place
invariant-walks::same_children-loop-place l =
    (length l.ours ≡ length l.theirs)
    × (same_elements (gathered l.ours) (gathered l.theirs) ≡ same_elements (gathered (drop l.place l.ours)) (gathered (drop l.place l.theirs)))
