use Rattle.std.proofs.Common.{◌≡◌, drop}
use Rattle.rx_ast.specs.Syntax.{key_of}
use Rattle.rx_ast.proofs.attribute.key_among.Given as goal

-- the attributes so far have no key
abbrev pub invariant-loop-attribute : goal.invariant-loop-attribute
invariant-loop-attribute l = key_of (drop l.attribute-index l.attributes) ≡ key_of l.attributes
