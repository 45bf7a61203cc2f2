use Rattle.std.proofs.Common.{◌≡◌, ◌++◌, drop}
use Rattle.std.specs.List.{flat_map}
use Rattle.rx_print.specs.Printing.{line_tokens}
use Rattle.rx_print.proofs.printer.Printer.lines.Given as goal

-- what is written and what is left make the whole
abbrev pub invariant-loop-line : goal.invariant-loop-line
invariant-loop-line l = l.self ++ flat_map line_tokens (drop l.line-index l.lines) ≡ l.fn.self ++ flat_map line_tokens l.lines
