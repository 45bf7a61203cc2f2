use Rattle.std.proofs.Common.{◌∙◌, ◌≤◌, length, sym, ap, arith}
use Rattle.std.proofs.lemmas.List.{take_all}
use Rattle.std.specs.List.{list_all}
use Rattle.rx_set.specs.Sets.{holds}
use Rattle.rx_set.proofs.Holding.{within}
use Rattle.rx_set.proofs.set.NumberSet.is_subset.Goals as goal

pub returns-clause-each : goal.returns-clause-each
returns-clause-each c e =
    let past : length c.args.self.now ≤ c.comparing.place = omega (arith, c.comparing-test.false, c.len-place-end.ensures, c.self.inside.members.ok, ap length c.self.view_is) in
    within c.args.self.now c.args.other.now (sym (ap (list_all (holds c.args.other.now)) (take_all c.comparing.place c.args.self.now past)) ∙ c.comparing.invariant)
