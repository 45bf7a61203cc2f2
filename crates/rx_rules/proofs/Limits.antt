-- The limits of both versions of the language.
use Rattle.std.proofs.Common.{◌≤◌, ℕ, Bool, true, false, cond, arith}
use Rattle.rx_ast.specs.Syntax.{Program}
use Rattle.rx_rules.specs.Versions.{node_limit, greatest_node_limit, list_limit}

-- no limit of nodes is above the greatest
pub limits_nodes : (p : Program) → node_limit p ≤ greatest_node_limit
limits_nodes p = go p.second
  where
    go : (b : Bool) → cond b 65536 4096 ≤ greatest_node_limit
    go true = omega arith
    go false = omega arith

-- no `for` of an accepted program makes more turns
pub limits_turns : (p : Program) → list_limit p ≤ 1024
limits_turns p = go p.second
  where
    go : (b : Bool) → cond b 1024 64 ≤ 1024
    go true = omega arith
    go false = omega arith
