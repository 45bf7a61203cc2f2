-- A table by key, for children whose keys are small whole numbers.
use Rattle.std.specs.Prelude.{◌≡◌, ℕ, suc, List, ℤ, pos, negsuc, Option, Some, None, slice_index_or, count_by, option_and_then}
use Rattle.std.specs.Option.{option_map_or}
use Rattle.rx_elem.specs.Elements.{Element}
use Rattle.rx_elem.specs.Identity.{at_key, has_key, identities}
use Rattle.rx_keys.specs.Found.{found_in}

-- where a key stands in a table, unless it is negative
abbrev pub slot_of : ℤ → Option ℕ
slot_of (pos n) = Some n
slot_of (negsuc n) = None

-- the place that a table has for a key, if it has one
abbrev pub entry_at : List (Option ℕ) → ℤ → Option ℕ
entry_at table key = option_and_then (λ n. slice_index_or table n None) (slot_of key)

-- no child is the second one with its key
abbrev pub HasKeysOnce : List Element → Type 0
HasKeysOnce children = (k : ℤ) (o : ℕ) → found_in (identities children) (at_key k (suc o)) ≡ None

-- no key occurs twice, and the table has the place of the child with each key
pub record FindsKeys (children : List Element) (table : List (Option ℕ)) : Type 0 where
  pub counted : (k : ℤ) → count_by (has_key k) children ≡ option_map_or (λ p. 1) (entry_at table k) 0
  pub first : (k : ℤ) → found_in (identities children) (at_key k 0) ≡ entry_at table k
  pub once : HasKeysOnce children

-- the table has the place of the old child that the next new child with each key can be, behind these new ones
abbrev pub FindsNext : List Element → List (Option ℕ) → (earlier : List Element) → Type 0
FindsNext old table earlier = (k : ℤ) → entry_at table k ≡ found_in (identities old) (at_key k (count_by (has_key k) earlier))
