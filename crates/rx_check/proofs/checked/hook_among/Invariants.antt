use Rattle.std.proofs.Common.{◌≡◌, ◌≤◌, drop}
use Rattle.std.specs.Prelude.{filter_map}
use Rattle.rx_rules.specs.Names.{hook_in}
use Rattle.rx_check.specs.Tables.{hook_among}
use Rattle.rx_check.proofs.checked.hook_among.Given as goal

-- the hook is among those of the statements that are left, which are numbered from here on
abbrev pub invariant-loop-statement : goal.invariant-loop-statement
invariant-loop-statement l =
    (l.number ≤ l.statement-index)
    × (hook_among l.functions l.name l.number (filter_map hook_in (drop l.statement-index l.statements)) ≡ hook_among l.functions l.name 0 (filter_map hook_in l.statements))
