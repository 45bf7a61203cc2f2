-- What the scheduler waits for: resources, each in one version, in rising order of their numbers.
use Rattle.std.specs.Prelude.{ℕ, min, Bool, true, false, List, [], ◌∷◌, Option, Some, None, filter_map, find, nat_eq, option_map, slice_index_or, if◌then◌else◌}
use Rattle.std.specs.List.{range_with_len}
use Rattle.std.specs.Option.{option_eq}
use Rattle.rx_base.specs.Awaits.{Awaits, resource_limit}
use Rattle.rx_base.specs.Awaits as awaits
use Rattle.rx_queue.specs.Pairs.{Pair}

-- what is waited for
abbrev pub Waiting : Type 0
Waiting = List Pair

-- no wait
abbrev pub nothing : Waiting
nothing = []

-- the version in which a resource is waited for, if it is
abbrev pub version_in : Waiting → (resource : ℕ) → Option ℕ
version_in waits r = option_map (λ w. w.version) (find (λ w. nat_eq w.resource r) waits)

-- a resource is waited for in this version
abbrev pub has : Waiting → (resource version : ℕ) → Bool
has waits r v = option_eq nat_eq (version_in waits r) (Some v)

-- a resource in a version, if there is one
abbrev pub paired : (resource : ℕ) → (version : Option ℕ) → Option Pair
paired r v = option_map (λ n. record { resource = r; version = n }) v

-- the resources for which a version is named
unfoldable pub waiting_where : (ℕ → Option ℕ) → Waiting
waiting_where version = filter_map (λ r. paired r (version r)) (range_with_len 0 resource_limit)

-- the lesser of two versions, where there are two
abbrev pub lesser : Option ℕ → Option ℕ → Option ℕ
lesser None w = w
lesser (Some v) None = Some v
lesser (Some v) (Some w) = Some (min v w)

-- a wait for all that two waits are for, each resource in its lesser version: versions get their values in order
abbrev pub union : Waiting → Waiting → Waiting
union a b = waiting_where (λ r. lesser (version_in a r) (version_in b r))

-- nothing is waited for
abbrev pub is_nothing : Waiting → Bool
is_nothing [] = true
is_nothing (w ∷ ws) = false

-- the version of a resource, from a set of resources and a table of their versions
abbrev pub kept_version : Awaits → (versions : List ℕ) → (resource : ℕ) → Option ℕ
kept_version resources versions r = if awaits.has resources r then Some (slice_index_or versions r 0) else None
