-- The parts of a component's element, as plain data.
use Rattle.std.specs.Prelude.{ℕ, ℤ, List}
use Rattle.rx_elem.specs.Elements.{Element}
use Rattle.rx_children.specs.declared.kind.Parts.{Parts}

-- its number, its props and its children
abbrev pub parts_seen : Parts → ℕ × (List ℤ × List Element)
parts_seen p = (p.component, (p.props.now, p.children.now))
