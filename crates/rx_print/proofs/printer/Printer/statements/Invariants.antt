use Rattle.std.proofs.Common.{◌≡◌, ◌++◌, drop}
use Rattle.std.specs.List.{flat_map}
use Rattle.rx_print.specs.Printing.{statement_tokens}
use Rattle.rx_print.proofs.printer.Printer.statements.Given as goal

-- what is written and what is left make the whole
abbrev pub invariant-loop-statement : goal.invariant-loop-statement
invariant-loop-statement l = l.self ++ flat_map statement_tokens (drop l.statement-index l.statements) ≡ l.fn.self ++ flat_map statement_tokens l.statements
