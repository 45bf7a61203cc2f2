-- What the two versions of the language differ in, beside the greatest number that a program writes.
use Rattle.std.specs.Prelude.{ℕ, if◌then◌else◌}
use Rattle.std.specs.Int.{Width, w32, w64}
use Rattle.rx_ast.specs.Syntax.{Program}

-- how wide the integers of a program are
abbrev pub width : Program → Width
width p = if p.second then w64 else w32

-- the most turns of a `for`
abbrev pub list_limit : Program → ℕ
list_limit p = if p.second then 1024 else 64

-- no program that is accepted has a greater node bound
abbrev pub node_limit : Program → ℕ
node_limit p = if p.second then 65536 else 4096

-- no program of either version has a greater limit
abbrev pub greatest_node_limit : ℕ
greatest_node_limit = 65536

-- the greatest number of an instance in a path
abbrev pub instance_limit : Program → ℕ
instance_limit p = if p.second then 65535 else 4095
