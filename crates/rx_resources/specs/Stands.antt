-- What is kept of a resource stands for the journal.
use Rattle.std.specs.Prelude.{◌≡◌, ℕ, true, false, not, List, filter, map}
use Rattle.std.specs.List.{AllByRecursion}
use Rattle.rx_base.specs.declared.cut.Cut.{Cut}
use Rattle.rx_queue.specs.History.{stands_done, stands_owed}
use Rattle.rx_queue.specs.Journal.{Journal, Posted, resource, updates_of, done_version, values_in, is_before}
use Rattle.rx_resources.specs.declared.resource.Asked.{Asked}
use Rattle.rx_resources.specs.Kept.{Kept}

-- a refresh as it is kept
abbrev pub asked_by : Posted → Asked
asked_by u = record { number = u.update.number; lane = u.update.lane }

-- what is kept of a resource is what the journal has of it: its refreshes that are done, those that are not, and its values
pub record IsKeptOf (j : Journal) (r : ℕ) (k : Kept) : Type 0 where
  pub done : k.done ≡ done_version j r
  pub asked : k.asked ≡ map asked_by (filter (λ u. not (stands_done u.standing)) (updates_of (resource r) j))
  pub values : k.values ≡ values_in j.resolutions r

-- each refresh is open, or done before the cut
abbrev pub IsOpenOrDone : Cut → Posted → Type 0
IsOpenOrDone cut u = (stands_owed u.standing ≡ false) × (stands_done u.standing ≡ true → is_before cut u ≡ true)

-- each refresh of a resource is open, or done before the cut
abbrev pub AreOpenOrDone : Cut → Journal → (r : ℕ) → Type 0
AreOpenOrDone cut j r = AllByRecursion (IsOpenOrDone cut) (updates_of (resource r) j)

-- no refresh of a resource is owed
abbrev pub NoneOwed : Journal → (r : ℕ) → Type 0
NoneOwed j r = AllByRecursion (λ u. stands_owed u.standing ≡ false) (updates_of (resource r) j)
