-- A node over its one list.
use Rattle.std.specs.Prelude.{◌≡◌, true, false}
use Rattle.std.proofs.Common.{refl}
use Rattle.rx_elem.specs.Elements.{Element}
use Rattle.rx_elem.specs.Trees.{Forest, Mark, is_caught, node, node_over, none}
use Rattle.rx_meaning.specs.Fresh.{made}

-- an error boundary that has caught a value is over its fallback
pub caught_over : (e : Element) (m : Mark) (ns : Forest) → is_caught m ≡ true → made (node e m none ns) ≡ made (node_over e m ns)
caught_over e m ns is = rw is refl

-- any other node is over its children
pub fine_over : (e : Element) (m : Mark) (ns : Forest) → is_caught m ≡ false → made (node e m ns none) ≡ made (node_over e m ns)
fine_over e m ns is = rw is refl
