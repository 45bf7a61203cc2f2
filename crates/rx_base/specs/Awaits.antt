-- What a place of a tree waits for: a set of resources, as their numbers in rising order.
use Rattle.std.specs.Prelude.{ℕ, Bool, true, false, ◌||◌, List, [], ◌∷◌, filter, nat_eq}
use Rattle.std.specs.List.{list_any, range_with_len}

-- resources that are waited for
abbrev pub Awaits : Type 0
Awaits = List ℕ

-- a program names no more resources than this
abbrev pub resource_limit : ℕ
resource_limit = 64

-- no wait
abbrev pub nothing : Awaits
nothing = []

-- a resource is among those that are waited for
abbrev pub has : Awaits → ℕ → Bool
has waits r = list_any (λ q. nat_eq q r) waits

-- the resources that pass a test. Each set is made so, and two sets of the same resources are equal.
unfoldable pub awaits_where : (ℕ → Bool) → Awaits
awaits_where test = filter test (range_with_len 0 resource_limit)

-- a wait for one resource
abbrev pub one : ℕ → Awaits
one r = awaits_where (nat_eq r)

-- a wait for all that two waits are for
abbrev pub union : Awaits → Awaits → Awaits
union a b = awaits_where (λ r. has a r || has b r)

-- nothing is waited for
abbrev pub is_nothing : Awaits → Bool
is_nothing [] = true
is_nothing (r ∷ rs) = false
