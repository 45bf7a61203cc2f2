use Rattle.cost_laws.proofs.Caused.{causes_met}
use Rattle.cost_laws.proofs.ComingCounts.{places_counted}
use Rattle.cost_laws.proofs.ComingOnce.{places_once}
use Rattle.cost_laws.proofs.CostLaws.{attempt_costs, last_costs, later_costs, most_costs, start_costs, take_costs, unit_costs}
use Rattle.cost_laws.proofs.FewerBodies.{whole_less}
use Rattle.cost_laws.proofs.LaterWork.{longer_sees_same_work, undue_later}
use Rattle.cost_laws.proofs.DirtyExact.{places_exact}
use Rattle.cost_laws.proofs.Resting.{nothing_rests}
use Rattle.cost_laws.proofs.laws.bodies_are_counted.Goals as goal

pub returns : goal.returns
returns c =
    record {
      start = start_costs;
      unit = unit_costs;
      takes_over = take_costs;
      skips_attempt = attempt_costs;
      later = later_costs;
      longer = longer_sees_same_work;
      last = last_costs;
      at_most = most_costs;
      places = places_counted;
      each = causes_met;
      once = places_once;
      exact = places_exact;
      fewer = whole_less;
      rests = nothing_rests;
      undue_later = undue_later;
    }
