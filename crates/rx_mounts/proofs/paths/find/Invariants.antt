use Rattle.std.proofs.Common.{◌≡◌, None, drop}
use Rattle.rx_model.specs.State.{find_from}
use Rattle.rx_mounts.proofs.Finding.{led_from}
use Rattle.rx_mounts.proofs.paths.find.Given as goal

-- the parts that are left lead from the instance at hand where the whole path leads
abbrev pub invariant-walking : goal.invariant-walking
invariant-walking l = led_from l.checked l.all l.found (drop l.part-index l.rest) ≡ find_from l.checked l.all None l.path
