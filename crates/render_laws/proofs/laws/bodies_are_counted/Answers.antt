use Rattle.rx_meaning.specs.Counts.{each_body}
use Rattle.render_laws.proofs.Counting.{spent_and_left}
use Rattle.render_laws.proofs.VisitCounts.{bodies_are_visits, places_are_visits}
use Rattle.render_laws.proofs.UnitBound.{more_units_than_bodies}
use Rattle.render_laws.proofs.laws.bodies_are_counted.Goals as goal

pub returns : goal.returns
returns c =
    record {
      visited = bodies_are_visits;
      places = places_are_visits;
      parts = λ s old k. spent_and_left each_body k s old;
      fewer = more_units_than_bodies;
    }
