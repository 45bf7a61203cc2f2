-- What a machine keeps of the resources of its program.
use Rattle.std.specs.Prelude.{◌≡◌, ℕ, ◌<◌, ◌≤◌, List, None, length}
use Rattle.rx_ast.specs.Syntax.{Program}
use Rattle.rx_rules.specs.Names.{resources}
use Rattle.rx_queue.specs.Journal.{Journal, last_version, resolved_now, resource}
use Rattle.rx_model.specs.State.{Linked, linked_lanes}
use Rattle.rx_resources.specs.Kept.{Kept}
use Rattle.rx_resources.specs.Store.{kept_at}
use Rattle.rx_resources.specs.Stands.{IsKeptOf, NoneOwed}

-- only resources of the program have values, and are asked for
pub record AreDeclared (p : Program) (j : Journal) : Type 0 where
  pub values : (r v : ℕ) → length (resources p) ≤ r → resolved_now j r v ≡ None
  pub asked : (r : ℕ) → length (resources p) ≤ r → last_version j r ≡ 0

-- what is kept of each resource of the program is what the journal has of it, with the lanes that it links, and no refresh is owed
pub record KeepsResources (p : Program) (j : Journal) (links : List Linked) (kept : List Kept) : Type 0 where
  pub all : length kept ≡ length (resources p)
  pub each : (r : ℕ) → r < length kept → IsKeptOf j r (kept_at kept r)
  pub linked : (r : ℕ) → r < length kept → (kept_at kept r).linked ≡ linked_lanes links (resource r)
  pub none_owed : (r : ℕ) → NoneOwed j r
