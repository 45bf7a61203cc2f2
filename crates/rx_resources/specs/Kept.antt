-- What a root keeps of a resource, and what is made of it.
use Rattle.std.specs.Prelude.{ℕ, ◌+◌, Bool, ◌&&◌, not, List, [], ◌∷◌, ◌++◌, ℤ, Option, filter, length, nat_lt, slice_get}
use Rattle.rx_base.specs.declared.cut.Cut.{Cut}
use Rattle.rx_lane.specs.declared.lane.Lane.{Lane}
use Rattle.rx_lane.specs.Lanes.{Lanes, has, no_lanes}
use Rattle.rx_hooks.specs.Hooks.{links_with}
use Rattle.rx_resources.specs.declared.resource.Asked.{Asked}

-- how many refreshes of a resource are done, those that are not, in their order, the values of its versions in order, and the transition lanes that it links
pub record Kept : Type 0 where
  pub done : ℕ
  pub asked : List Asked
  pub values : List ℤ
  pub linked : Lanes

-- a resource at the start: its version 0 is asked for
abbrev pub opening : Kept
opening = record { done = 0; asked = []; values = []; linked = no_lanes }

-- the last version that was asked for
abbrev pub last_version : Kept → ℕ
last_version k = k.done + length k.asked

-- a render with these lanes at this cut includes a refresh
abbrev pub is_included : Lanes → Cut → Asked → Bool
is_included lanes cut a = nat_lt a.number cut.updates && has lanes a.lane

-- the version that a render with these lanes at this cut sees
abbrev pub version_at : Lanes → Cut → Kept → ℕ
version_at lanes cut k = k.done + length (filter (is_included lanes cut) k.asked)

-- the value of a version, if it has one
abbrev pub value_of : Kept → (version : ℕ) → Option ℤ
value_of k v = slice_get k.values v

-- another version is asked for
abbrev pub refreshed : Asked → Kept → Kept
refreshed a k = record k { asked = k.asked ++ a ∷ [] }

-- the next version gets its value
abbrev pub resolved : ℤ → Kept → Kept
resolved x k = record k { values = k.values ++ x ∷ [] }

-- a transition links its lane with the lanes of the resource that are still pending
abbrev pub relinked : Lane → Lanes → Kept → Kept
relinked lane pending k = record k { linked = links_with lane pending k.linked }

-- a render with these lanes at this cut was committed: what it included is done
abbrev pub committed : Lanes → Cut → Kept → Kept
committed lanes cut k = record k { done = version_at lanes cut k; asked = filter (λ a. not (is_included lanes cut a)) k.asked }
