-- Resources in versions.
use Rattle.std.specs.Prelude.{ℕ, List, map}
use Rattle.rx_base.specs.Awaits.{Awaits}

-- a version of a resource
pub record Pair : Type 0 where
  pub resource : ℕ
  pub version : ℕ

-- Resources that a place waits for, each in its version. All waits of one render are for the versions that it sees, and those of the visible boundaries of a committed tree for the versions that are done; so a tree keeps the resources alone.
abbrev pub in_versions : (version : ℕ → ℕ) → Awaits → List Pair
in_versions version waits = map (λ r. record { resource = r; version = version r }) waits
