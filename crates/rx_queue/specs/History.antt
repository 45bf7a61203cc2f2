-- The history of a hook: its value at mount, and all its updates in the order of the journal.
use Rattle.std.specs.Prelude.{ℕ, ◌≡◌, ◌<◌, Bool, true, false, not, ◌&&◌, ◌||◌, nat_lt, if◌then◌else◌, List, [], ◌∷◌, ◌++◌, map, fold, filter, ℤ}
use Rattle.std.specs.List.{list_any, AllByRecursion}
use Rattle.rx_base.specs.declared.cut.Cut.{Cut}
use Rattle.rx_lane.specs.declared.lane.Lane.{Lane}
use Rattle.rx_lane.specs.Lanes.{Lanes, has, same_lane, lanes_where}
use Rattle.rx_queue.specs.declared.update.Op.{Op}
use Rattle.rx_queue.specs.declared.update.Op.TheVariants.{Set, Call, Refresh}
use Rattle.rx_queue.specs.declared.update.Update.{Update}
use Rattle.rx_queue.specs.declared.entry.Standing.{Standing}
use Rattle.rx_queue.specs.declared.entry.Standing.TheVariants.{Open, Done, Owed}
use Rattle.rx_queue.specs.declared.entry.Entry.{Entry}

-- what functions answer, of their number, a state and an argument
abbrev pub Answers : Type 0
Answers = ℕ → ℤ → ℤ → ℤ

-- what an operation makes of a state; a refresh is of a resource, and of no state
abbrev pub applied : Answers → ℤ → Op → ℤ
applied answers state (Set x) = x
applied answers state (Call f x) = answers f state x
applied answers state Refresh = state

-- ---- how an update stands

-- it stands open
abbrev pub stands_open : Standing → Bool
stands_open Open = true
stands_open Done = false
stands_open Owed = false

-- it is done for good
abbrev pub stands_done : Standing → Bool
stands_done Open = false
stands_done Done = true
stands_done Owed = false

-- it is owed
abbrev pub stands_owed : Standing → Bool
stands_owed Open = false
stands_owed Done = false
stands_owed Owed = true

-- an update lies before the cut
abbrev pub lies_before : Cut → Update → Bool
lies_before cut u = nat_lt u.number cut.updates

-- an update that stands so is included if it lies before the cut and is done, is owed, or has its lane among the lanes
abbrev pub includes : Lanes → Cut → Update → Standing → Bool
includes lanes cut u standing = lies_before cut u && (stands_done standing || stands_owed standing || has lanes u.lane)

-- an update that stands so is included, and neither done nor owed
abbrev pub includes_new : Lanes → Cut → Update → Standing → Bool
includes_new lanes cut u standing = includes lanes cut u standing && stands_open standing

-- the state after the updates of those that pass a test, in their order
abbrev pub state_by : {A : Type 0} → (A → Update) → Answers → (A → Bool) → ℤ → List A → ℤ
state_by update_of answers test state xs = fold (λ now x. applied answers now (update_of x).op) state (filter test xs)

-- the value of a hook at mount and every update that it was sent, oldest first. None is ever taken out.
pub record History : Type 0 where
  pub initial : ℤ
  pub entries : List Entry

-- the history of a hook at its mount
abbrev pub opening : ℤ → History
opening initial = record { initial = initial; entries = [] }

-- ---- an update of a history

-- the update is neither done nor owed
abbrev pub is_open : Entry → Bool
is_open e = stands_open e.standing

-- the update is done for good
abbrev pub is_done : Entry → Bool
is_done e = stands_done e.standing

-- the update is owed to content that is hidden
abbrev pub is_owed : Entry → Bool
is_owed e = stands_owed e.standing

-- the hook's last processing included the update
abbrev pub was_included : Entry → Bool
was_included e = e.included

-- the update lies before the cut
abbrev pub is_before : Cut → Entry → Bool
is_before cut e = lies_before cut e.update

-- a render with these lanes at this cut includes the update
abbrev pub is_included : Lanes → Cut → Entry → Bool
is_included lanes cut e = includes lanes cut e.update e.standing

-- ---- states

-- the state after the updates that pass a test, in the order of the journal
abbrev pub state_from : Answers → (Entry → Bool) → ℤ → List Entry → ℤ
state_from answers test state entries = state_by (λ e. e.update) answers test state entries

-- the state of a hook for these lanes at this cut: its included updates on top of its value at mount
abbrev pub state_of : Answers → Lanes → Cut → History → ℤ
state_of answers lanes cut history = state_from answers (is_included lanes cut) history.initial history.entries

-- the committed value of a hook: its done updates on top of its value at mount
abbrev pub committed_value : Answers → History → ℤ
committed_value answers history = state_from answers is_done history.initial history.entries

-- the in-order fold of a hook: all its updates on top of its value at mount
abbrev pub in_order : Answers → History → ℤ
in_order answers history = state_from answers (λ e. true) history.initial history.entries

-- every update of the hook is done
abbrev pub AllDone : History → Type 0
AllDone history = AllByRecursion (λ e. is_done e ≡ true) history.entries

-- the cut lies above the number of every done update
abbrev pub IsAboveDone : Cut → History → Type 0
IsAboveDone cut history = AllByRecursion (λ e. is_done e ≡ true → e.update.number < cut.updates) history.entries

-- ---- what the calls make of a history

-- a new update is open, and no processing has included it
abbrev pub new_entry : Update → Entry
new_entry update = record { update = update; standing = Open; included = false }

-- the history after an update is accepted
abbrev pub pushed : Update → History → History
pushed update history = record history { entries = history.entries ++ new_entry update ∷ [] }

-- an update after a processing, which notes whether it included it
abbrev pub noted : Lanes → Cut → Entry → Entry
noted lanes cut e = record e { included = is_included lanes cut e }

-- the history after a processing, which notes what it included
abbrev pub processed : Lanes → Cut → History → History
processed lanes cut history = record history { entries = map (noted lanes cut) history.entries }

-- an update after a commit: it is done if the last processing included it
abbrev pub settled : Entry → Entry
settled e = if e.included then record e { standing = Done } else e

-- the history after a commit: what the last processing included is done, and so no longer owed
abbrev pub committed : History → History
committed history = record history { entries = map settled history.entries }

-- an update becomes owed if it lies before the cut, is not done, and has its lane among the lanes
abbrev pub becomes_owed : Lanes → Cut → Entry → Bool
becomes_owed lanes cut e = is_before cut e && not (is_done e) && has lanes e.update.lane

-- an update after a commit that keeps the hook's content hidden
abbrev pub owed_after : Lanes → Cut → Entry → Entry
owed_after lanes cut e = if becomes_owed lanes cut e then record e { standing = Owed } else e

-- the history after a commit for these lanes at this cut that keeps the hook's content hidden
abbrev pub marked_owed : Lanes → Cut → History → History
marked_owed lanes cut history = record history { entries = map (owed_after lanes cut) history.entries }

-- ---- work

-- the update is included and neither done nor owed
abbrev pub is_new : Lanes → Cut → Entry → Bool
is_new lanes cut e = includes_new lanes cut e.update e.standing

-- the update is owed and lies before the cut, so it is included for any lanes
abbrev pub is_owed_before : Cut → Entry → Bool
is_owed_before cut e = is_before cut e && is_owed e

-- the lane is that of an update that is neither done nor owed
abbrev pub is_pending : List Entry → Lane → Bool
is_pending entries lane = list_any (λ e. is_open e && same_lane e.update.lane lane) entries

-- the lanes of the updates that are neither done nor owed
abbrev pub pending_of : List Entry → Lanes
pending_of entries = lanes_where (is_pending entries)
