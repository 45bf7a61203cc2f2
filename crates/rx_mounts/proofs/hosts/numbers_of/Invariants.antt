use Rattle.std.proofs.Common.{◌≡◌, map, take}
use Rattle.rx_mounts.proofs.hosts.numbers_of.Given as goal

-- the numbers so far
abbrev pub invariant-loop-host : goal.invariant-loop-host
invariant-loop-host l = l.numbers.items ≡ map (λ h. h.number) (take l.host-index l.hosts)
