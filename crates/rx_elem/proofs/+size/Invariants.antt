use Rattle.std.proofs.Common.{◌≡◌, ◌+◌, ◌*◌, ◌<◌, ◌^◌, drop}
use Rattle.rx_elem.specs.Elements.{depth, depth_in, gathered}
use Rattle.rx_elem.specs.ElementSize.{held, size_in}
use Rattle.rx_elem.proofs.+size.Given as goal

abbrev pub decreases-element::Element::size : goal.decreases-element::Element::size
decreases-element::Element::size l = 2 * depth l.self.now + 1

abbrev pub decreases-walks::size_of_all : goal.decreases-walks::size_of_all
decreases-walks::size_of_all l = 2 * depth_in (gathered l.elements.now) + 2

-- the count so far and that from here on make the whole
abbrev pub invariant-walks::size_of_all-loop-element : goal.invariant-walks::size_of_all-loop-element
invariant-walks::size_of_all-loop-element l =
    (held (size_in (gathered l.fn.elements)) ≡ held (l.size + size_in (gathered (drop l.element-index l.fn.elements)))) × (l.size < 2 ^ 64)
