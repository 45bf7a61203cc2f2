use Rattle.std.proofs.Common.{◌≡◌, ◌++◌, drop, map}
use Rattle.rx_print.specs.Printing.{more_separated, separated, parameter_token}
use Rattle.rx_print.proofs.printer.Printer.parameters.Given as goal

-- what is written and what is left make the whole
abbrev pub invariant-loop-parameter : goal.invariant-loop-parameter
invariant-loop-parameter l =
    l.self ++ more_separated (map parameter_token (drop l.parameter-index l.others)) ≡ l.fn.self ++ separated (map parameter_token l.parameters)
