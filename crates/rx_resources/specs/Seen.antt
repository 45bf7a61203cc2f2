-- What a render sees of the resources, and whether one of them got its value since.
use Rattle.std.specs.Prelude.{ℕ, Bool, not, ◌&&◌, List, ℤ, Option, None, is_some, map, nat_eq, slice_index_or}
use Rattle.std.specs.List.{list_any}
use Rattle.rx_base.specs.Awaits.{Awaits, has}
use Rattle.rx_base.specs.declared.cut.Cut.{Cut}
use Rattle.rx_lane.specs.Lanes.{Lanes}
use Rattle.rx_resources.specs.Kept.{Kept, value_of, version_at}
use Rattle.rx_resources.specs.Store.{kept_at}

-- the version of each resource, its value if it has one, and whether one is another than the last commit showed
pub record Resources : Type 0 where
  pub versions : List ℕ
  pub values : List (Option ℤ)
  pub refreshes : Bool

-- a render with these lanes at this cut sees another version of a resource than the last commit showed
abbrev pub sees_another : Lanes → Cut → Kept → Bool
sees_another lanes cut k = not (nat_eq (version_at lanes cut k) k.done)

-- what a render with these lanes at this cut sees
abbrev pub seen_of : Lanes → Cut → List Kept → Resources
seen_of lanes cut kept =
    record {
      versions = map (version_at lanes cut) kept;
      values = map (λ k. value_of k (version_at lanes cut k)) kept;
      refreshes = list_any (sees_another lanes cut) kept;
    }

-- the version of a resource that a render saw has a value by now, and had none for it
abbrev pub is_new : List Kept → Resources → (resource : ℕ) → Bool
is_new kept seen r = is_some (value_of (kept_at kept r) (slice_index_or seen.versions r 0)) && not (is_some (slice_index_or seen.values r None))

-- the same of one of these resources
abbrev pub is_news : List Kept → Resources → Awaits → (resource : ℕ) → Bool
is_news kept seen waits r = has waits r && is_new kept seen r
