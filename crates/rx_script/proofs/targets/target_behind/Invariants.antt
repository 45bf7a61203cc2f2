use Rattle.std.proofs.Common.{◌≡◌, drop}
use Rattle.rx_script.specs.Lines.{target_from}
use Rattle.rx_script.proofs.targets.target_behind.Given as goal

abbrev pub invariant-parts : goal.invariant-parts
invariant-parts l = target_from l.checked l.root l.parts ≡ target_from l.checked l.component (drop l.part-index l.parts)
