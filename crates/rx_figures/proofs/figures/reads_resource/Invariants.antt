use Rattle.std.proofs.Common.{◌≡◌, drop}
use Rattle.std.specs.Prelude.{is_some}
use Rattle.std.specs.List.{list_any}
use Rattle.rx_rules.specs.Names.{resource_in}
use Rattle.rx_rules.specs.Bounds.{reads_resource}
use Rattle.rx_figures.proofs.figures.reads_resource.Given as goal

-- a read is looked for among the statements that are left
abbrev pub invariant-loop-statement : goal.invariant-loop-statement
invariant-loop-statement l = list_any (λ s. is_some (resource_in s)) (drop l.statement-index l.statement-items) ≡ reads_resource l.component
