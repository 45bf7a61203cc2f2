use Rattle.std.proofs.Common.{◌≡◌, ◌++◌, drop, map}
use Rattle.rx_lex.specs.declared.token.Kind.TheVariants.{Lower}
use Rattle.rx_print.specs.Printing.{more_separated, separated}
use Rattle.rx_print.proofs.printer.Printer.names.Given as goal

-- what is written and what is left make the whole
abbrev pub invariant-loop-name : goal.invariant-loop-name
invariant-loop-name l =
    l.self ++ more_separated (map (λ x. Lower x) (drop l.name-index l.others)) ≡ l.fn.self ++ separated (map (λ x. Lower x) l.names)
