use Rattle.std.proofs.Common.{◌≡◌, length, map, take}
use Rattle.rx_elem.specs.Elements.{key_of}
use Rattle.rx_compare.specs.Matched.{element_at}
use Rattle.rx_fresh.proofs.lists.have_keys_of.Given as goal

-- so far the keys are the same
abbrev pub invariant-loop-place : goal.invariant-loop-place
invariant-loop-place l = (length l.old ≡ length l.new) × (map key_of (map element_at (take l.place l.old)) ≡ map key_of (take l.place l.new))
