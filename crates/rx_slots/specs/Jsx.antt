-- What begins with `<`, as plain data.
use Rattle.rx_ast.specs.Syntax.{Body, single, fragment, slots_of}
use Rattle.rx_slots.specs.declared.bodies.Jsx.{Jsx}
use Rattle.rx_slots.specs.declared.bodies.Jsx.TheVariants as jsx

-- a body of it alone
abbrev pub alone : Jsx → Body
alone (jsx.Element e) = single e
alone (jsx.Fragment cs) = fragment (slots_of cs.items)
