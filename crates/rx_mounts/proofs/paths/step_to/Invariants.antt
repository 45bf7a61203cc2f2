use Rattle.std.proofs.Common.{◌≡◌, drop}
use Rattle.std.specs.Prelude.{filter, slice_get}
use Rattle.rx_model.specs.State.{is_step, step_to}
use Rattle.rx_mounts.proofs.paths.step_to.Given as goal

-- the one that is looked for is left to come
abbrev pub invariant-looking : goal.invariant-looking
invariant-looking l = slice_get (filter (is_step l.checked l.owner l.part.0) (drop l.instance-index l.all)) l.left ≡ step_to l.checked l.all l.owner l.part
