-- What the machine relies on in a program that is accepted.
use Rattle.std.specs.Prelude.{◌≡◌, ◌≤◌, true, false}
use Rattle.rx_ast.specs.Syntax.{Program}
use Rattle.rx_rules.specs.Bounds.{node_bound, depth_bound, root_waits, root_throws}
use Rattle.rx_rules.specs.Versions.{node_limit}
use Rattle.rx_rules.specs.Keys.{KeysApart}
use Rattle.rx_rules.specs.Reads.{ReadsDeclared}
use Rattle.rx_check.specs.Limits.{limit_of}
use Rattle.rx_check.specs.Checks.{is_rooted}
use Rattle.rx_mentions.specs.declared.count.Count.TheVariants as count

-- The program has a root without parameters, which never waits and never throws; its trees have few nodes and levels; in each child list at most one place carries a key; and each context that is read is declared.
pub record IsRunnable (p : Program) : Type 0 where
  pub rooted : is_rooted p ≡ true
  pub ready : root_waits (λ c. true) p ≡ false
  pub caught : root_throws (λ c. true) p ≡ false
  pub shallow : depth_bound p ≤ limit_of p count.Depth
  pub small : node_bound p ≤ node_limit p
  pub keys_apart : KeysApart p
  pub reads_declared : ReadsDeclared p
