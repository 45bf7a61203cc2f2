use Rattle.std.proofs.Common.{◌≡◌, drop}
use Rattle.std.specs.List.{list_any}
use Rattle.rx_rules.specs.Names.{throws}
use Rattle.rx_rules.specs.Bounds.{has_throw}
use Rattle.rx_figures.proofs.figures.has_throw.Given as goal

-- a throw is looked for among the statements that are left
abbrev pub invariant-loop-statement : goal.invariant-loop-statement
invariant-loop-statement l = list_any throws (drop l.statement-index l.statement-items) ≡ has_throw l.component
