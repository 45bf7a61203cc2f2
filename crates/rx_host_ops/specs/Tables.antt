-- Tables in which hosts are found.
use Rattle.std.specs.Prelude.{◌≡◌, ℕ, ◌-◌, List, Option, Some, None, nat_eq, nat_le, nat_lt, ◌&&◌, slice_index_or, if◌then◌else◌}
use Rattle.std.specs.List.{position_from}
use Rattle.std.specs.Option.{option_map_or}
use Rattle.std.specs.HashMap.{get}
use Rattle.rx_forest.specs.Hosts.{Host}
use Rattle.rx_host_ops.specs.declared.table.Table.{Table}

-- where a number stands in a list of this length that begins with the least one
abbrev pub slot_of : (least size number : ℕ) → Option ℕ
slot_of least size number = if nat_le least number && nat_lt (number - least) size then Some (number - least) else None

-- what a table has for a number
abbrev pub entry_in : Table → ℕ → Option ℕ
entry_in table n =
    option_map_or (λ k. slice_index_or table.near.items k None) (slot_of table.least table.near.len n) (get nat_eq table.far n)

-- a table has the first place of each number among these hosts
pub record KnowsAll (hosts : List Host) (table : Table) : Type 0 where
  pub at : (n : ℕ) → entry_in table n ≡ position_from (λ h. nat_eq h.number n) 0 hosts
