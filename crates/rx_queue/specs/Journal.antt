-- The journal: all updates and resolutions that were accepted, and the states that they give (react.dev, Queueing a Series of State Updates).
use Rattle.std.specs.Prelude.{ℕ, Bool, true, false, ◌&&◌, ◌||◌, not, List, ℤ, Option, length, nat_eq, nat_le, filter, map, take, is_some, slice_get, if◌then◌else◌}
use Rattle.std.specs.List.{enumerate_from, list_any}
use Rattle.rx_base.specs.declared.cut.Cut.{Cut}
use Rattle.rx_lane.specs.declared.lane.Lane.{Lane}
use Rattle.rx_lane.specs.Lanes.{Lanes, has, same_lane}
use Rattle.rx_queue.specs.declared.update.Update.{Update}
use Rattle.rx_queue.specs.declared.entry.Standing.{Standing}
use Rattle.rx_queue.specs.declared.entry.Standing.TheVariants.{Done, Owed}
use Rattle.rx_queue.specs.Pairs.{Pair}
use Rattle.rx_queue.specs.History.{Answers, stands_done, lies_before, includes, includes_new, state_by}

-- whose state an update is of: a hook of an instance, both by their numbers, or a resource, of which it asks for another version
pub data Target : Type 0 where
  hook : (instance hook : ℕ) → Target
  resource : (number : ℕ) → Target

-- an update as it stands in the journal: whose state it is of, and whether it is open, done or owed
pub record Posted : Type 0 where
  pub target : Target
  pub update : Update
  pub standing : Standing

-- a resource got the value of its next version
pub record Resolution : Type 0 where
  pub resource : ℕ
  pub value : ℤ

-- everything that was accepted, oldest first; updates are numbered from 0 as they come
pub record Journal : Type 0 where
  pub updates : List Posted
  pub resolutions : List Resolution

-- the cut that has everything so far before it
abbrev pub cut_now : Journal → Cut
cut_now j = record { updates = length j.updates; resolutions = length j.resolutions }

-- two targets are one
abbrev pub same_target : Target → Target → Bool
same_target (hook i k) (hook j l) = nat_eq i j && nat_eq k l
same_target (hook i k) (resource r) = false
same_target (resource r) (hook j l) = false
same_target (resource r) (resource q) = nat_eq r q

-- a target belongs to one of these instances
abbrev pub belongs_to : (instances : List ℕ) → Target → Bool
belongs_to instances (hook i k) = list_any (nat_eq i) instances
belongs_to instances (resource r) = false

-- a target is a resource
abbrev pub is_resource : Target → Bool
is_resource (hook i k) = false
is_resource (resource r) = true

-- the updates of one target
abbrev pub updates_of : Target → Journal → List Posted
updates_of t j = filter (λ u. same_target t u.target) j.updates

-- States

-- an update lies before the cut
abbrev pub is_before : Cut → Posted → Bool
is_before cut u = lies_before cut u.update

-- a render with these lanes at this cut includes the update
abbrev pub is_included : Lanes → Cut → Posted → Bool
is_included lanes cut u = includes lanes cut u.update u.standing

-- the state after the updates that pass a test, in journal order
abbrev pub state_from : Answers → (Posted → Bool) → ℤ → List Posted → ℤ
state_from answers test state us = state_by (λ u. u.update) answers test state us

-- the state of a hook for these lanes at this cut: its included updates on top of its initial value
unfoldable pub state_of : Answers → Lanes → Cut → (initial : ℤ) → List Posted → ℤ
state_of answers lanes cut initial us = state_from answers (is_included lanes cut) initial us

-- the committed value of a hook: its done updates on top of its initial value
unfoldable pub committed_value : Answers → (initial : ℤ) → List Posted → ℤ
committed_value answers initial us = state_from answers (λ u. stands_done u.standing) initial us

-- the in-order fold of a hook: all its updates on top of its initial value
unfoldable pub in_order : Answers → (initial : ℤ) → List Posted → ℤ
in_order answers initial us = state_from answers (λ u. true) initial us

-- an update that is included, and neither done nor owed
abbrev pub is_new : Lanes → Cut → Posted → Bool
is_new lanes cut u = includes_new lanes cut u.update u.standing

-- After a commit with these lanes at this cut, of a tree with these visible and these kept instances

-- an update becomes owed if it lies before the cut, isn't done, has one of the lanes, and its instance is kept
abbrev pub becomes_owed : Lanes → Cut → (kept : List ℕ) → Posted → Bool
becomes_owed lanes cut kept u = is_before cut u && (not (stands_done u.standing) && (has lanes u.update.lane && belongs_to kept u.target))

-- an included update of a visible instance is done, and so is each included refresh of a resource
abbrev pub standing_after : Lanes → Cut → (visible kept : List ℕ) → Posted → Standing
standing_after lanes cut visible kept u =
    if is_included lanes cut u && (belongs_to visible u.target || is_resource u.target) then Done
    else if becomes_owed lanes cut kept u then Owed
    else u.standing

-- an update as it stands after the commit
abbrev pub marked_update : Lanes → Cut → (visible kept : List ℕ) → Posted → Posted
marked_update lanes cut visible kept u = record u { standing = standing_after lanes cut visible kept u }

-- the journal after the commit
abbrev pub marked : Lanes → Cut → (visible kept : List ℕ) → Journal → Journal
marked lanes cut visible kept j = record j { updates = map (marked_update lanes cut visible kept) j.updates }

-- some update after the cut has this lane
abbrev pub has_later : Cut → Journal → Lane → Bool
has_later cut j l = list_any (λ u. nat_le cut.updates u.update.number && same_lane u.update.lane l) j.updates

-- Versions: each refresh of a resource asks for another

-- how many refreshes of a resource pass a test
abbrev pub refreshes : (Posted → Bool) → Journal → (resource : ℕ) → ℕ
refreshes test j r = length (filter test (updates_of (resource r) j))

-- the version of a resource for these lanes at this cut: as many refreshes of it are included
abbrev pub version_of : Lanes → Cut → Journal → (resource : ℕ) → ℕ
version_of lanes cut j r = refreshes (is_included lanes cut) j r

-- the version of a resource that the last commit shows
abbrev pub done_version : Journal → (resource : ℕ) → ℕ
done_version j r = refreshes (λ u. stands_done u.standing) j r

-- the last version of a resource that was asked for
abbrev pub last_version : Journal → (resource : ℕ) → ℕ
last_version j r = refreshes (λ u. true) j r

-- Values: the first resolution of a resource is of its version 0, and each further one of the next

-- how these resolutions resolve a resource, in the order of its versions
abbrev pub values_in : List Resolution → (resource : ℕ) → List ℤ
values_in rs r = map (λ x. x.value) (filter (λ x. nat_eq x.resource r) rs)

-- the value of a version of a resource, where these resolutions have it
abbrev pub value_in : List Resolution → (resource version : ℕ) → Option ℤ
value_in rs r v = slice_get (values_in rs r) v

-- the value of each resource in its version
abbrev pub values_at : List Resolution → (versions : List ℕ) → List (Option ℤ)
values_at rs versions = map (λ x. value_in rs x.0 x.1) (enumerate_from 0 versions)

-- the resolutions before the cut
abbrev pub resolutions_by : Cut → Journal → List Resolution
resolutions_by cut j = take cut.resolutions j.resolutions

-- the value of a version of a resource that was resolved before the cut
abbrev pub resolved_by : Cut → Journal → (resource version : ℕ) → Option ℤ
resolved_by cut j r v = value_in (resolutions_by cut j) r v

-- the value that a version of a resource has by now
abbrev pub resolved_now : Journal → (resource version : ℕ) → Option ℤ
resolved_now j r v = resolved_by (cut_now j) j r v

-- how many versions of a resource have a value by the cut
abbrev pub versions_resolved : Cut → Journal → (resource : ℕ) → ℕ
versions_resolved cut j r = length (values_in (resolutions_by cut j) r)

-- the version that the next resolution of a resource resolves
abbrev pub next_version : Journal → (resource : ℕ) → ℕ
next_version j r = versions_resolved (cut_now j) j r

-- something that is waited for was resolved after the cut
abbrev pub resolved_since : Cut → Journal → List Pair → Bool
resolved_since cut j waits =
    list_any (λ w. is_some (resolved_now j w.resource w.version) && not (is_some (resolved_by cut j w.resource w.version))) waits
