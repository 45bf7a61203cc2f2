use Rattle.std.proofs.Common.{◌≡◌, map, take}
use Rattle.rx_elem.specs.Elements.{key_of}
use Rattle.rx_keys.proofs.aligned.have_same_keys.Given as goal

-- so far the keys are the same
abbrev pub invariant-loop-place : goal.invariant-loop-place
invariant-loop-place l = map key_of (take l.place l.old) ≡ map key_of (take l.place l.new)
