use Rattle.std.proofs.Common.{◌≡◌, ◌++◌, drop}
use Rattle.std.specs.List.{flat_map}
use Rattle.rx_host_ops.specs.Each.{creation_of}
use Rattle.rx_host_ops.proofs.known.Known.add_creations.Given as goal

-- the operations so far, and those of the hosts from here on, are all
abbrev pub invariant-loop-host : goal.invariant-loop-host
invariant-loop-host l =
    l.ops.items ++ flat_map (creation_of l.self.hosts.now) (drop l.host-index l.hosts) ≡ l.initial.ops.items ++ flat_map (creation_of l.self.hosts.now) l.hosts
