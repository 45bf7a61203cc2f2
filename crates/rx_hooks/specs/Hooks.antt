-- The hooks of a component instance: what each was sent, and which transition lanes it links.
use Rattle.std.specs.Prelude.{ℕ, zero, suc, ◌≡◌, Bool, true, false, if◌then◌else◌, List, [], ◌∷◌, map, ℤ}
use Rattle.std.specs.List.{list_any, AllByRecursion, AllZip}
use Rattle.rx_base.specs.declared.cut.Cut.{Cut}
use Rattle.rx_lane.specs.declared.lane.Lane.{Lane}
use Rattle.rx_lane.specs.Lanes.{Lanes, no_lanes, lanes_where, one, union, intersection}
use Rattle.rx_queue.specs.declared.update.Update.{Update}
use Rattle.rx_queue.specs.declared.queue.Work.{Work}
use Rattle.rx_queue.specs.declared.queue.Work.TheVariants.{New, Owed, Nothing}
use Rattle.rx_queue.specs.History.{Answers, History, IsAboveDone, committed, is_pending, marked_owed, opening, processed, pushed, state_of}
use Rattle.rx_queue.specs.Stands.{IsLast, StandsFor, work_of}
use Rattle.rx_hooks.specs.declared.hook.Hook.{Hook}

-- the history of a hook, and the transition lanes that it links
pub record HookHistory : Type 0 where
  pub updates : History
  pub linked : Lanes

-- ---- what the calls make of one hook

-- a hook at its mount, with its initial value
abbrev pub mounted : ℤ → HookHistory
mounted initial = record { updates = opening initial; linked = no_lanes }

-- a hook after it is sent an update
abbrev pub sent : Update → HookHistory → HookHistory
sent update hook = record hook { updates = pushed update hook.updates }

-- a hook after a render of its component for these lanes at this cut
abbrev pub rendered : Lanes → Cut → HookHistory → HookHistory
rendered lanes cut hook = record hook { updates = processed lanes cut hook.updates }

-- a hook after a commit of what was rendered last
abbrev pub committed_hook : HookHistory → HookHistory
committed_hook hook = record hook { updates = committed hook.updates }

-- a hook after a commit for these lanes at this cut that keeps its content hidden
abbrev pub owed_hook : Lanes → Cut → HookHistory → HookHistory
owed_hook lanes cut hook = record hook { updates = marked_owed lanes cut hook.updates }

-- a transition dispatch links its lane with the lanes of the hook that are still pending
abbrev pub links_with : Lane → Lanes → Lanes → Lanes
links_with lane pending linked = union (intersection linked pending) (one lane)

-- a hook after a transition dispatch
abbrev pub relinked : Lane → Lanes → HookHistory → HookHistory
relinked lane pending hook = record hook { linked = links_with lane pending hook.linked }

-- ---- all hooks

-- the hooks after one of them, by its place, is changed
abbrev pub changed_at : ℕ → (HookHistory → HookHistory) → List HookHistory → List HookHistory
changed_at place change [] = []
changed_at zero change (hook ∷ hooks) = change hook ∷ hooks
changed_at (suc place) change (hook ∷ hooks) = hook ∷ changed_at place change hooks

-- the cut lies above the number of every done update of every hook
abbrev pub AllAboveDone : Cut → List HookHistory → Type 0
AllAboveDone cut hooks = AllByRecursion (λ hook. IsAboveDone cut hook.updates) hooks

-- the states of all hooks for these lanes at this cut, in their order
abbrev pub states_of : Answers → Lanes → Cut → List HookHistory → List ℤ
states_of answers lanes cut hooks = map (λ hook. state_of answers lanes cut hook.updates) hooks

-- the work is new
abbrev pub is_new_work : Work → Bool
is_new_work New = true
is_new_work Owed = false
is_new_work Nothing = false

-- the work is owed
abbrev pub is_owed_work : Work → Bool
is_owed_work New = false
is_owed_work Owed = true
is_owed_work Nothing = false

-- the work of a list of works: new if any is new, else owed if any is owed, else none
abbrev pub work_among : List Work → Work
work_among works = if list_any is_new_work works then New else (if list_any is_owed_work works then Owed else Nothing)

-- the work that a render for these lanes at this cut has in all hooks
abbrev pub work_of_hooks : Lanes → Cut → List HookHistory → Work
work_of_hooks lanes cut hooks = work_among (map (λ hook. work_of lanes cut hook.updates.entries) hooks)

-- the lanes of the updates of all hooks that are neither done nor owed
abbrev pub pending_of_hooks : List HookHistory → Lanes
pending_of_hooks hooks = lanes_where (λ lane. list_any (λ hook. is_pending hook.updates.entries lane) hooks)

-- ---- which hooks they stand for

-- a hook stands for its history: its queue does, and what it keeps of its last render is what that gave
pub record HookStandsFor (answers : Answers) (kept : Hook) (hook : HookHistory) : Type 0 where
  pub queue_is : StandsFor answers kept.queue hook.updates
  pub last_is : IsLast answers hook.updates kept.processed
  pub linked_is : kept.linked ≡ hook.linked

-- a list of hooks stands for as many histories, each for its own
abbrev pub HooksStandFor : Answers → List Hook → List HookHistory → Type 0
HooksStandFor answers kept hooks = AllZip (HookStandsFor answers) kept hooks

-- ---- their room

-- how many more updates the hook at a place has room for; none if there is no hook
abbrev pub room_at : (place : ℕ) → List Hook → ℕ
room_at place [] = 0
room_at zero (hook ∷ hooks) = hook.queue.room
room_at (suc place) (hook ∷ hooks) = room_at place hooks
