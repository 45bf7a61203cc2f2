use Rattle.std.proofs.Common.{◌≡◌, ℕ, take}
use Rattle.rx_set.specs.Sets.{holds}
use Rattle.rx_settle.specs.Passes.{has_instance}
use Rattle.rx_settle.proofs.gone.numbers_of.Given as goal

-- the numbers of the instances so far are known
abbrev pub invariant-knowing : goal.invariant-knowing
invariant-knowing l = (n : ℕ) → holds l.known n ≡ has_instance (take l.instance-index l.instances) n
