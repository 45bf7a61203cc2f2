use Rattle.std.proofs.Common.{◌≡◌, drop}
use Rattle.std.specs.Prelude.{fold}
use Rattle.rx_catch.specs.Nearest.{nearer_catch, nearest_catch}
use Rattle.rx_catch.proofs.handlers.last_catch.Given as goal

-- the last of those so far is outside of those that are left
abbrev pub invariant-passing : goal.invariant-passing
invariant-passing l = fold nearer_catch l.last (drop l.handler-index l.handlers) ≡ nearest_catch l.handlers
