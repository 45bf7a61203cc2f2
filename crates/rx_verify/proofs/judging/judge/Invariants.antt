use Rattle.std.proofs.Common.{drop, length}
use Rattle.rx_plain.specs.Stands.{HasRoomFor, StandsForSome}
use Rattle.rx_kept.specs.Taking.{AllCanTake}
use Rattle.rx_verify.specs.Following.{IsPlace, all_of}
use Rattle.rx_verify.specs.Turning.{Follows}
use Rattle.rx_verify.proofs.judging.judge.Given as goal

-- the steps so far are taken, and the report is followed up to here
abbrev pub invariant-script : goal.invariant-script
invariant-script g l = record {
  stands : StandsForSome l.checked l.plain;
  place : IsPlace l.report l.place;
  followed : Follows l.checked l.script l.report l.place (all_of (drop l.step-index l.script)) l.plain;
  fits : AllCanTake l.checked (drop l.step-index l.script);
  room : HasRoomFor (length (drop l.step-index l.script)) l.plain;
}
