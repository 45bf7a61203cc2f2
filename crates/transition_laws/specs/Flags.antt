-- What is kept of the flags of transitions, and what they show (react.dev, useTransition).
use Rattle.std.specs.Prelude.{◌≡◌, ◌↔◌, ◌⊎◌, ℕ, Bool, true, false, ◌||◌, List, [], ◌∷◌, ℤ, pos, Option, Some, IfSome, IsTrue, length, slice_get}
use Rattle.std.specs.List.{AllByRecursion}
use Rattle.std.specs.Option.{option_map_or}
use Rattle.rx_base.specs.declared.cut.Cut.{Cut}
use Rattle.rx_lane.specs.declared.lane.Lane.{Lane}
use Rattle.rx_lane.specs.Lanes.{has, same_lane}
use Rattle.rx_ast.specs.Syntax.{Program}
use Rattle.rx_rules.specs.Names.{StateHook, component_at, hooks_of}
use Rattle.rx_elem.specs.Spots.{Mounted, mounted}
use Rattle.rx_queue.specs.Journal.{Target, hook, Posted, is_before, is_included}
use Rattle.rx_sched.specs.Links.{Links, links_of}
use Rattle.rx_model.specs.State.{State, Progress, committed_values, linked_lanes}
use Rattle.transition_laws.specs.Transitions.{AllSettled, IsLast, IsStarted, Transition, are_settled, is_accounted, lane_of, transitions_in, updates_in}

-- Flags

-- the hook of this number among these is a flag
abbrev pub is_flag_among : List StateHook → (number : ℕ) → Bool
is_flag_among hooks k = option_map_or (λ h. h.flag) (slice_get hooks k) false

-- the hook of this number of a component is the flag of a `useTransition`
abbrev pub flags_a_transition : Program → (component hook : ℕ) → Bool
flags_a_transition p c k = is_flag_among (option_map_or hooks_of (component_at p c) []) k

-- the transitions of a flag
abbrev pub transitions_of : State → (flag : Target) → List Transition
transitions_of s flag = transitions_in flag s.journal.updates

-- Each flag of a visible instance has the committed value 0 exactly if all updates of all its started transitions are settled.
abbrev pub FlagsShow : Program → State → Type 0
FlagsShow p s =
    (n k : ℕ) (m : Mounted) (x : ℤ) → slice_get (mounted s.tree) n ≡ Some m → m.visible ≡ true → flags_a_transition p m.component k ≡ true
    → slice_get (committed_values p s.journal m) k ≡ Some x
    → (x ≡ pos 0) ↔ AllByRecursion (λ e. IsStarted e → AllSettled s.tree e) (transitions_of s (hook m.number k))

-- What is kept of the transitions of a flag

-- the lanes that a flag links have that of a transition that isn't settled
abbrev pub KeepsLane : State → (flag : Target) → Transition → Type 0
KeepsLane s flag e = IsTrue (are_settled s.tree e) ⊎ IsTrue (has (linked_lanes s.linked flag) (lane_of e))

-- two lanes are one, or are rendered together
abbrev pub are_linked : Links → Lane → Lane → Bool
are_linked links l m = same_lane l m || has (links_of links l) m

-- a render in progress that unsets the flag of the later of two transitions has the lanes of both
abbrev pub RendersBoth : Option Progress → (earlier later : Transition) → Type 0
RendersBoth progress e f =
    IfSome progress (λ g. IsTrue (is_included g.lanes g.cut f.unsetting) → IsTrue (has g.lanes (lane_of e)) × IsTrue (has g.lanes (lane_of f)))

-- the later of two transitions has yet to unset the flag, and does so only together with the earlier one
pub record Waits (s : State) (earlier later : Transition) : Type 0 where
  pub yet_to_unset : is_accounted later.unsetting ≡ false
  pub earlier_pending : IsTrue (has s.schedule.pending (lane_of earlier))
  pub later_pending : IsTrue (has s.schedule.pending (lane_of later))
  pub linked : IsTrue (are_linked s.schedule.links (lane_of earlier) (lane_of later))
  pub together : RendersBoth s.progress earlier later

-- of two transitions the earlier one is settled, or the later one waits for it
abbrev pub WaitsFor : State → (earlier later : Transition) → Type 0
WaitsFor s e f = IsTrue (are_settled s.tree e) ⊎ Waits s e f

-- each of a list stands so to each behind it
abbrev pub EachToLater : {A : Type 0} → (A → A → Type 0) → List A → Type 0
EachToLater R [] = Unit {0}
EachToLater R (x ∷ xs) = AllByRecursion (R x) xs × EachToLater R xs

-- if a transition has unset its flag, it is settled
abbrev pub UnsetsLast : State → Transition → Type 0
UnsetsLast s e = IsTrue (is_accounted e.unsetting) → IsTrue (are_settled s.tree e)

-- a cut has all updates of a transition before it, or none
abbrev pub IsWholeAt : Cut → Transition → Type 0
IsWholeAt cut e = AllByRecursion (λ u. IsTrue (is_before cut u)) (updates_in e) ⊎ AllByRecursion (λ u. is_before cut u ≡ false) (updates_in e)

-- no cut in progress falls between two updates of a transition
abbrev pub IsWhole : Option Progress → Transition → Type 0
IsWhole progress e = IfSome progress (λ g. IsWholeAt g.cut e)

-- an update is neither done nor owed, nor before a cut in progress
abbrev pub IsUntaken : Option Progress → Posted → Type 0
IsUntaken progress u = (is_accounted u ≡ false) × IfSome progress (λ g. is_before g.cut u ≡ false)

-- a transition goes on, with the event that has its lane: no update came after its own
abbrev pub GoesOn : State → Transition → Type 0
GoesOn s e = (s.event.lane ≡ Some (lane_of e)) × IsLast (length s.journal.updates) e

-- no update of a transition that goes on is done, owed or before a cut in progress
abbrev pub IsOpenUntaken : State → Transition → Type 0
IsOpenUntaken s e = GoesOn s e → AllByRecursion (IsUntaken s.progress) (updates_in e)

-- what each step keeps of a flag
pub record FlagIsKept (s : State) (flag : Target) : Type 0 where
  pub lanes : AllByRecursion (KeepsLane s flag) (transitions_of s flag)
  pub order : EachToLater (WaitsFor s) (transitions_of s flag)
  pub last : AllByRecursion (UnsetsLast s) (transitions_of s flag)
  pub whole : AllByRecursion (IsWhole s.progress) (transitions_of s flag)
  pub untaken : AllByRecursion (IsOpenUntaken s) (transitions_of s flag)

-- the same of each flag of a mounted instance
abbrev pub FlagsAreKept : Program → State → Type 0
FlagsAreKept p s =
    (n k : ℕ) (m : Mounted) → slice_get (mounted s.tree) n ≡ Some m → flags_a_transition p m.component k ≡ true → FlagIsKept s (hook m.number k)
