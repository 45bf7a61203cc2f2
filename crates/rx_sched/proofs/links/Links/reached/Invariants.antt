use Rattle.std.specs.Prelude.{◌≡◌, ◌-◌}
use Rattle.rx_sched.specs.Links.{links_on}
use Rattle.rx_sched.proofs.links.Links.reached.Given as goal

-- the rounds that are left make of what is found what all rounds make of the set
abbrev pub invariant-loop-round : goal.invariant-loop-round
invariant-loop-round l = links_on (20 - l._round) l.self l.pending l.found ≡ links_on 20 l.self l.pending l.fn.lanes
