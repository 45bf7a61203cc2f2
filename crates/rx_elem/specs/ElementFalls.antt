-- Each part of an element is less deep than the element.
use Rattle.std.specs.Prelude.{◌+◌, ◌≤◌, max, List, [], ◌∷◌}
use Rattle.std.proofs.Common.{arith}
use denote.Param.Weighed.{most}
use Rattle.rx_elem.specs.Elements.{Element, depth, depth_in, gathered}
use Rattle.rx_elem.specs.ElementView.{element_seen}
use Rattle.rx_elem.specs.declared.element.ElementKind.{ElementKind}
use Rattle.rx_elem.specs.declared.element.ElementKind.TheVariants as kind
use Rattle.rx_elem.specs.declared.element.Element.TheDeep.{deep-ElementKind}

most_le-depth_in : (es : List Element) → most (λ e. depth e + 1) es ≤ depth_in (gathered es) + 1
most_le-depth_in [] = omega arith
most_le-depth_in (e ∷ es) = omega (arith, most_le-depth_in es)

pub depth_falls : (k : ElementKind) → max (deep-ElementKind k) 0 ≤ depth (element_seen k)
depth_falls kind.Null = omega arith
depth_falls (kind.Text t) = omega arith
depth_falls (kind.Host name key attrs es) = omega (arith, most_le-depth_in es.items)
depth_falls (kind.Comp c key props es) = omega (arith, most_le-depth_in es.items)
depth_falls (kind.List mark es) = omega (arith, most_le-depth_in es.items)
depth_falls (kind.Boundary key fallback es) = omega (arith, most_le-depth_in es.items)
depth_falls (kind.Catch key fallback es) = omega (arith, most_le-depth_in es.items)
depth_falls (kind.Provider c key given es) = omega (arith, most_le-depth_in es.items)
