-- New numbers change no element.
use Rattle.std.specs.Prelude.{◌≡◌, refl}
use Rattle.rx_elem.specs.Trees.{Node, node, element_of}
use Rattle.rx_elem.specs.Numbers.{Numbers, numbered}

pub numbered_element : (from : Numbers) (n : Node) → element_of (numbered from n).1 ≡ element_of n
numbered_element from (node e m ns fs) = refl
