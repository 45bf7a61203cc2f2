-- Lanes that are rendered together.
use Rattle.std.specs.Prelude.{◌≡◌, ◌↔◌, ℕ, zero, suc, Bool, true, ◌&&◌, ◌||◌, List, map, slice_index_or, if◌then◌else◌}
use Rattle.std.specs.List.{list_any}
use Rattle.rx_lane.specs.declared.lane.Lane.{Lane}
use Rattle.rx_lane.specs.Lanes.{Lanes, priority, has, all_lanes, lanes_where, no_lanes, union, intersection}

-- of each lane, highest first, the lanes that are rendered together with it
abbrev pub Links : Type 0
Links = List Lanes

-- no lane is linked
abbrev pub no_links : Links
no_links = map (λ l. no_lanes) all_lanes

-- the lanes that a lane is linked with
abbrev pub links_of : Links → Lane → Lanes
links_of links l = slice_index_or links (priority l) no_lanes

-- every two lanes of a set are linked, beside the links that are there
unfoldable pub linked_by : Links → Lanes → Links
linked_by links lanes = map (λ l. if has lanes l then union (links_of links l) lanes else links_of links l) all_lanes

-- the links between pending lanes
unfoldable pub links_among : Links → Lanes → Links
links_among links pending = map (λ l. if has pending l then intersection (links_of links l) pending else no_lanes) all_lanes

-- a lane is linked with one of a set
abbrev pub is_linked : Links → Lanes → Lane → Bool
is_linked links lanes l = list_any (λ m. has lanes m && has (links_of links m) l) all_lanes

-- a set, and the pending lanes that are linked with one of it
unfoldable pub one_link_on : Links → Lanes → Lanes → Lanes
one_link_on links pending lanes = lanes_where (λ l. has lanes l || (has pending l && is_linked links lanes l))

-- a lane is reached from a set: it is in it, or it is pending and linked with a lane that is reached
pub data IsReached (links : Links) (pending : Lanes) (lanes : Lanes) : Lane → Type 0 where
  within : (l : Lane) → has lanes l ≡ true → IsReached links pending lanes l
  along : (m : Lane) (l : Lane) → IsReached links pending lanes m → has (links_of links m) l ≡ true → has pending l ≡ true → IsReached links pending lanes l

-- so many links on
unfoldable pub links_on : ℕ → Links → Lanes → Lanes → Lanes
links_on zero links pending lanes = lanes
links_on (suc n) links pending lanes = links_on n links pending (one_link_on links pending lanes)

-- All lanes that are reached from a set. There are 20 lanes, so 20 links on there is none left to reach.
abbrev pub reached : Links → Lanes → Lanes → Lanes
reached = links_on 20

-- a set holds exactly the lanes that are reached from another
abbrev pub IsAllReached : Links → Lanes → Lanes → Lanes → Type 0
IsAllReached links pending lanes all = (l : Lane) → (has all l ≡ true) ↔ IsReached links pending lanes l
