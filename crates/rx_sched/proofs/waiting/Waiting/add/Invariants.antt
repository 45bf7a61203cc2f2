use Rattle.std.specs.Prelude.{◌≡◌}
use Rattle.rx_sched.proofs.Waits.{AddsWaits}
use Rattle.rx_sched.proofs.waiting.Waiting.add.Given as goal

-- the entries so far are written, and the set of resources is as it was
abbrev pub invariant-loop-resource : goal.invariant-loop-resource
invariant-loop-resource l =
    record {
      same : l.self-inside.resources ≡ l.initial.self-inside.resources;
      adds : AddsWaits l.initial.self-inside.resources l.waits l.versions l.initial.self-inside.versions l.self-inside.versions l.resource;
    }
