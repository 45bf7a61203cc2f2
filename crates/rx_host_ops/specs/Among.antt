-- The operations between two lists of hosts from which hosts that stay may be left out.
use Rattle.std.specs.Prelude.{ℕ, List, ◌++◌}
use Rattle.rx_forest.specs.declared.op.HostOp.{HostOp}
use Rattle.rx_forest.specs.Hosts.{Host}
use Rattle.rx_forest.specs.HostOps.{contents, creations, hidings, placements, removals}

-- the operations from one list of hosts to another, if hosts of these numbers are placed among all
abbrev pub ops_among : (old new all : List Host) → (placed : List ℕ) → List HostOp
ops_among old new all placed = removals old new ++ creations old new ++ placements placed all ++ contents old new ++ hidings old new
