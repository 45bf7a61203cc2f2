use Rattle.std.proofs.Common.{◌≡◌, ◌^◌, ◌-◌, min, take}
use Rattle.rx_script.specs.Words.{value_of}
use Rattle.rx_script.proofs.words.natural.Given as goal

abbrev pub invariant-loop-d : goal.invariant-loop-d
invariant-loop-d l = l.value ≡ min (value_of (take l.d-index l.word)) (2 ^ 64 - 1)
