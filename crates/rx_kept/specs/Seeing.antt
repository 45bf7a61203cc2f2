-- What a render sees of the resources.
use Rattle.std.specs.Prelude.{◌≡◌, ℕ, ◌≤◌, length}
use Rattle.rx_rules.specs.Names.{resources}
use Rattle.rx_meaning.specs.Fresh.{Sight, resources_seen, version_seen, versions_seen}
use Rattle.rx_meaning.specs.Touched.{sees_refresh}
use Rattle.rx_resources.specs.Seen.{Resources}

-- what a render sees of them
abbrev pub resources_by : Sight → Resources
resources_by s = record { versions = versions_seen s; values = resources_seen s; refreshes = sees_refresh s }

-- no other resource is asked for
abbrev pub AsksForDeclared : Sight → Type 0
AsksForDeclared s = (r : ℕ) → length (resources s.program) ≤ r → version_seen s r ≡ 0

-- what a render sees of the resources but for their refreshes
pub record AreSeen (s : Sight) (r : Resources) : Type 0 where
  pub versions : r.versions ≡ versions_seen s
  pub values : r.values ≡ resources_seen s
