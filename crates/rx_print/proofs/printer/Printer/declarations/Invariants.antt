use Rattle.std.proofs.Common.{◌≡◌, ◌++◌, drop}
use Rattle.std.specs.List.{flat_map}
use Rattle.rx_print.specs.Printing.{declaration_tokens}
use Rattle.rx_print.proofs.printer.Printer.declarations.Given as goal

-- what is written and what is left make the whole
abbrev pub invariant-loop-declaration : goal.invariant-loop-declaration
invariant-loop-declaration l = l.self ++ flat_map declaration_tokens (drop l.declaration-index l.declarations) ≡ l.fn.self ++ flat_map declaration_tokens l.declarations
