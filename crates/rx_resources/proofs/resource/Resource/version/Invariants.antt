use Rattle.std.proofs.Common.{◌≡◌, ◌+◌, filter, length, take}
use Rattle.rx_resources.specs.Kept.{is_included}
use Rattle.rx_resources.proofs.resource.Resource.version.Given as goal

abbrev pub invariant-loop-asked : goal.invariant-loop-asked
invariant-loop-asked l = l.version ≡ l.self.done + length (filter (is_included l.lanes l.cut) (take l.asked-index l.asked-items))
