use Rattle.std.proofs.Common.{◌≡◌, length, take}
use Rattle.rx_host_ops.specs.Beside.{numbers_in}
use Rattle.rx_host_ops.proofs.between.have_same_numbers.Given as goal

-- there are as many of both, and so far the numbers are the same
abbrev pub invariant-comparing : goal.invariant-comparing
invariant-comparing l = (length l.old ≡ length l.new) × (numbers_in (take l.place l.old) ≡ numbers_in (take l.place l.new))
