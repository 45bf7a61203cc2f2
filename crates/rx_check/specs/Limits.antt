-- The limits of a program.
use Rattle.std.specs.Prelude.{ℕ}
use Rattle.rx_ast.specs.Syntax.{Program}
use Rattle.rx_rules.specs.Versions.{list_limit}
use Rattle.rx_mentions.specs.declared.count.Count.{Count}
use Rattle.rx_mentions.specs.declared.count.Count.TheVariants as count

-- the most that is allowed of what is counted
abbrev pub limit_of : Program → Count → ℕ
limit_of p count.Name = 64
limit_of p count.Text = 256
limit_of p count.Declarations = 256
limit_of p count.Parameters = 16
limit_of p count.Statements = 64
limit_of p count.Attributes = 16
limit_of p count.Dependencies = 16
limit_of p count.List = list_limit p
limit_of p count.Resources = 64
limit_of p count.Depth = 256
