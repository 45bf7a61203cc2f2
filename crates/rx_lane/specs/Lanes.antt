-- Lanes by falling priority, and sets of lanes.
use Rattle.std.specs.Prelude.{ℕ, Bool, true, false, not, ◌&&◌, ◌||◌, List, [], ◌∷◌, Option, Some, None, filter, nat_eq, nat_le, nat_lt}
use Rattle.std.specs.List.{list_any, list_all}
use Rattle.rx_lane.specs.declared.lane.Lane.{Lane}
use Rattle.rx_lane.specs.declared.lane.Lane.TheVariants.{Sync, Input, Default, T1, T2, T3, T4, T5, T6, T7, T8, T9, T10, T11, T12, T13, T14, T15, T16, Retry}

-- how many lanes have a higher priority
abbrev pub priority : Lane → ℕ
priority Sync = 0
priority Input = 1
priority Default = 2
priority T1 = 3
priority T2 = 4
priority T3 = 5
priority T4 = 6
priority T5 = 7
priority T6 = 8
priority T7 = 9
priority T8 = 10
priority T9 = 11
priority T10 = 12
priority T11 = 13
priority T12 = 14
priority T13 = 15
priority T14 = 16
priority T15 = 17
priority T16 = 18
priority Retry = 19

-- two lanes are the same one
abbrev pub same_lane : Lane → Lane → Bool
same_lane a b = nat_eq (priority a) (priority b)

-- the first lane's priority is strictly higher
abbrev pub is_higher : Lane → Lane → Bool
is_higher a b = nat_lt (priority a) (priority b)

-- a lane is one of T1 to T16
abbrev pub is_transition : Lane → Bool
is_transition l = nat_le (priority T1) (priority l) && nat_le (priority l) (priority T16)

-- every lane, by falling priority
abbrev pub all_lanes : List Lane
all_lanes = Sync ∷ Input ∷ Default ∷ T1 ∷ T2 ∷ T3 ∷ T4 ∷ T5 ∷ T6 ∷ T7 ∷ T8 ∷ T9 ∷ T10 ∷ T11 ∷ T12 ∷ T13 ∷ T14 ∷ T15 ∷ T16 ∷ Retry ∷ []

-- a set of lanes, by falling priority
abbrev pub Lanes : Type 0
Lanes = List Lane

-- a lane is in a set
abbrev pub has : Lanes → Lane → Bool
has lanes l = list_any (same_lane l) lanes

-- the lanes that pass a test. Each set is made so, and two sets with the same lanes are equal.
unfoldable pub lanes_where : (Lane → Bool) → Lanes
lanes_where test = filter test all_lanes

-- the empty set
abbrev pub no_lanes : Lanes
no_lanes = []

-- the set of one lane
abbrev pub one : Lane → Lanes
one l = lanes_where (same_lane l)

-- the lanes of both sets
abbrev pub union : Lanes → Lanes → Lanes
union a b = lanes_where (λ l. has a l || has b l)

-- the lanes of the first set that aren't in the second
abbrev pub minus : Lanes → Lanes → Lanes
minus a b = lanes_where (λ l. has a l && not (has b l))

-- the lanes that both sets have
abbrev pub intersection : Lanes → Lanes → Lanes
intersection a b = lanes_where (λ l. has a l && has b l)

-- the transition lanes of a set
abbrev pub transitions : Lanes → Lanes
transitions a = lanes_where (λ l. is_transition l && has a l)

-- some lane is in both sets
abbrev pub meets : Lanes → Lanes → Bool
meets a b = list_any (has b) a

-- each lane of the first set is in the second
abbrev pub within : Lanes → Lanes → Bool
within a b = list_all (has b) a

-- the lane of highest priority
abbrev pub highest : Lanes → Option Lane
highest [] = None
highest (l ∷ ls) = Some l

-- no lane is in the set
abbrev pub is_empty : Lanes → Bool
is_empty [] = true
is_empty (l ∷ ls) = false

-- all lanes of a set are transition lanes
abbrev pub only_transitions : Lanes → Bool
only_transitions = list_all is_transition
