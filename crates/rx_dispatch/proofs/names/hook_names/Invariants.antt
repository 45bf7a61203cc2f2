use Rattle.std.proofs.Common.{◌≡◌, ◌++◌, drop, map}
use Rattle.std.specs.Prelude.{filter_map}
use Rattle.rx_rules.specs.Names.{hook_in, hook_names}
use Rattle.rx_dispatch.proofs.names.hook_names.Given as goal

-- the names so far and those of the statements that are left are all
abbrev pub invariant-loop-statement : goal.invariant-loop-statement
invariant-loop-statement l =
    hook_names l.component ≡ l.names.items ++ map (λ h. h.name) (filter_map hook_in (drop l.statement-index l.component.statements))
