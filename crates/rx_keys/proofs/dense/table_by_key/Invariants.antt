use Rattle.std.proofs.Common.{take}
use Rattle.rx_keys.specs.Dense.{FindsKeys}
use Rattle.rx_keys.proofs.dense.table_by_key.Given as goal

-- the table has the keys so far
abbrev pub invariant-loop-place : goal.invariant-loop-place
invariant-loop-place l = FindsKeys (take l.place l.children) l.table.items
