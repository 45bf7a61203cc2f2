use Rattle.std.proofs.Common.{◌≡◌, drop}
use Rattle.std.specs.Prelude.{filter_map, fold}
use Rattle.rx_rules.specs.Names.{resource_in}
use Rattle.rx_names.specs.Listed.{with_name}
use Rattle.rx_names.proofs.listing.read_by.Given as goal

-- what is left to read makes of the names what all makes of those at the start
abbrev pub invariant-loop-statement : goal.invariant-loop-statement
invariant-loop-statement l =
    fold with_name l.resources (filter_map resource_in (drop l.statement-index l.statement-items)) ≡ fold with_name l.fn.resources (filter_map resource_in l.component.statements)
