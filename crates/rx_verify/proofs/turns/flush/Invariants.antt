use Rattle.std.proofs.Common.{◌-◌, List}
use Rattle.rx_step.specs.declared.step.Step.{Step}
use Rattle.rx_plain.specs.Stands.{LeavesRoom}
use Rattle.rx_verify.specs.Following.{IsPlace, Left, flushes}
use Rattle.rx_verify.specs.Turning.{FollowsBetween, StandsBetween}
use Rattle.rx_verify.proofs.turns.flush.Given as goal

-- so many turns are taken so far
abbrev pub invariant-turns : goal.invariant-turns
invariant-turns g l = record {
  stands : StandsBetween l.checked l.plain;
  room : LeavesRoom l.taken l.fn.plain l.plain;
  place : IsPlace l.report l.place;
  followed : (script : List Step) (left : Left) → FollowsBetween l.checked script l.report l.fn.place (flushes 24 left) l.fn.plain
      → FollowsBetween l.checked script l.report l.place (flushes (24 - l.taken) left) l.plain;
}
