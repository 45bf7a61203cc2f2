-- What changes in a table of hosts.
use Rattle.std.specs.Prelude.{◌≡◌, ℕ, Bool, true, cond, List, Option, Some, None, is_some, nat_eq, if◌then◌else◌, min}
use Rattle.std.specs.HashMap.{get, spare, hash_map_len}
use Rattle.rx_elem.specs.Spots.{container}
use Rattle.rx_forest.specs.Forests.{Held, HostForest}
use Rattle.rx_host.specs.declared.entry.HostEntry.{HostEntry}
use Rattle.rx_host.specs.declared.table.HostTable.{HostTable}
use Rattle.rx_host.specs.Links.{Links}
use Rattle.rx_host.specs.Kept.{Kept, held_in, links_of}

-- the host of a number
abbrev pub host_in : HostTable → ℕ → Option HostEntry
host_in t n = get nat_eq t.hosts n

-- the links of the hosts
abbrev pub links_in : HostTable → Links
links_in t = links_of (host_in t) t.first t.last

-- what is held under each number
abbrev pub shown_in : HostTable → ℕ → Option Held
shown_in t = held_in (host_in t)

-- how many hosts there are
abbrev pub count_in : HostTable → ℕ
count_in t = hash_map_len t.hosts

-- how many more hosts there is room for
abbrev pub room_in : HostTable → ℕ
room_in t = spare t.hosts

-- a host is there
abbrev pub has : HostTable → ℕ → Bool
has t n = is_some (host_in t n)

-- a child of a parent is there, or, if none is given, the parent
abbrev pub is_spot : HostTable → (parent : ℕ) → (child : Option ℕ) → Bool
is_spot t p None = cond (nat_eq p container) true (has t p)
is_spot t p (Some n) = has t n

-- the hosts are the same but for their links
pub record KeepsHosts (old new : HostTable) : Type 0 where
  pub shown : shown_in new ≡ shown_in old
  pub held : (n : ℕ) → has new n ≡ has old n
  pub count : count_in new ≡ count_in old
  pub room : room_in new ≡ room_in old

-- what is held of one host changes
pub record ChangesHost (old : HostTable) (n : ℕ) (change : Option Held → Option Held) (new : HostTable) : Type 0 where
  pub shown : shown_in new ≡ (λ m. if nat_eq m n then change (shown_in old m) else shown_in old m)
  pub links : links_in new ≡ links_in old
  pub held : (m : ℕ) → has new m ≡ has old m
  pub count : count_in new ≡ count_in old
  pub room : room_in new ≡ room_in old

-- a forest of these hosts, with these children
abbrev pub forest_in : HostTable → (children : ℕ → List ℕ) → HostForest
forest_in t children = record { held = shown_in t; children = children }

-- the tree that a table and so many spare cells for attributes are
abbrev pub kept_in : HostTable → (cells : ℕ) → Kept
kept_in t cells = record { entries = t.hosts.entries; first = t.first; last = t.last; spare = min (room_in t) cells }
