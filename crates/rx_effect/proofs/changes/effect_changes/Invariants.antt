use Rattle.std.proofs.Common.{◌≡◌, ◌++◌}
use Rattle.rx_effect.specs.EffectLog.{effect_changes}
use Rattle.rx_effect.proofs.Differing.{changes_from, pairs_from}
use Rattle.rx_effect.proofs.changes.effect_changes.Given as goal

-- the places so far and those from here on are all
abbrev pub invariant-loop-place : goal.invariant-loop-place
invariant-loop-place l = effect_changes l.fn.old l.fn.new ≡ l.places.items ++ changes_from l.place (pairs_from l.place l.fn.old l.fn.new)
