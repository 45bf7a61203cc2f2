-- Two sights that see the same work: journals that differ after the cut alone.
use Rattle.std.specs.Prelude.{◌≡◌}
use Rattle.std.specs.List.{list_any}
use Rattle.rx_queue.specs.Journal.{Journal, Target, updates_of}
use Rattle.rx_meaning.specs.Fresh.{Sight}
use Rattle.rx_meaning.specs.Touched.{sees_refresh}
use Rattle.cost_laws.specs.Causes.{is_due, is_news}

-- the same sight with another journal sees in each hook whether an included update isn't done, and whether one is neither done nor owed; and it sees a refresh exactly if the other does
pub record SeesSameWork (s : Sight) (j : Journal) : Type 0 where
  pub due : (t : Target) → list_any (is_due s) (updates_of t s.journal) ≡ list_any (is_due s) (updates_of t j)
  pub news : (t : Target) → list_any (is_news s) (updates_of t s.journal) ≡ list_any (is_news s) (updates_of t j)
  pub refresh : sees_refresh s ≡ sees_refresh (record s { journal = j })
