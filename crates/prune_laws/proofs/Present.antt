-- No node is one of null in settled trees and in what stands in them.
use Rattle.std.specs.Prelude.{◌≡◌, true, Option, Some, None, refl}
use Rattle.rx_ast.specs.Syntax.{Program}
use Rattle.rx_elem.specs.Elements.{Element, is_present}
use Rattle.rx_elem.specs.Elements as elements
use Rattle.rx_elem.specs.Trees.{Node, node, Mark, Forest, none, vacant, child}
use Rattle.rx_meaning.specs.Settled.{Known, IsOwn, IsSettled, AllSettled, IfSettled}
use Rattle.prune_laws.specs.Present.{HasNoNull, AllHaveNoNull, IfHasNoNull}

own_present : (p : Program) (k : Known) (e : Element) (m : Mark) (ns fs : Forest) → IsOwn p k e m ns fs → is_present e ≡ true
own_present p k elements.null m ns fs h = absurd h
own_present p k (elements.text t) m ns fs h = refl
own_present p k (elements.host n key attrs es) m ns fs h = refl
own_present p k (elements.comp c key props es) m ns fs h = refl
own_present p k (elements.list marked es) m ns fs h = refl
own_present p k (elements.boundary key f es) m ns fs h = refl
own_present p k (elements.catcher key f es) m ns fs h = refl
own_present p k (elements.provider c key x es) m ns fs h = refl

mutual
  settled_present : (p : Program) (k : Known) (n : Node) → IsSettled p k n → HasNoNull n
  settled_present p k (node e m ns fs) h = (own_present p k e m ns fs h.0, all_settled_present p k ns h.1, all_settled_present p k fs h.2)

  all_settled_present : (p : Program) (k : Known) (ns : Forest) → AllSettled p k ns → AllHaveNoNull ns
  all_settled_present p k none h = tt
  all_settled_present p k (vacant ns) h = all_settled_present p k ns h
  all_settled_present p k (child n ns) h = (settled_present p k n h.0, all_settled_present p k ns h.1)

-- A settled tree has no node of null.
pub if_settled_present : (p : Program) (k : Known) (old : Option Node) → IfSettled p k old → IfHasNoNull old
if_settled_present p k None h = tt
if_settled_present p k (Some n) h = settled_present p k n h
