use Rattle.std.proofs.Common.{◌≡◌, ◌++◌, drop}
use Rattle.std.specs.List.{flat_map}
use Rattle.rx_print.specs.Printing.{attribute_tokens}
use Rattle.rx_print.proofs.printer.Printer.attributes.Given as goal

-- what is written and what is left make the whole
abbrev pub invariant-loop-attribute : goal.invariant-loop-attribute
invariant-loop-attribute l =
    l.self ++ flat_map attribute_tokens (drop l.attribute-index l.attributes) ≡ l.fn.self ++ flat_map attribute_tokens l.attributes
