-- Which lanes are pending, and what is rendered next.
use Rattle.std.specs.Prelude.{◌≡◌, ℕ, Bool, true, false, not, ◌&&◌, ◌||◌, [], ◌∷◌, Option, Some, None, is_none, if◌then◌else◌}
use Rattle.std.specs.List.{list_any, list_all}
use Rattle.rx_sched.specs.Waiting.{Waiting}
use Rattle.rx_sched.specs.Waiting as waiting
use Rattle.rx_lane.specs.declared.lane.Lane.{Lane}
use Rattle.rx_lane.specs.declared.lane.Lane.TheVariants.{Input, Default, T1, T2, T3, T4, T5, T6, T7, T8, T9, T10, T11, T12, T13, T14, T15, T16, Retry}
use Rattle.rx_lane.specs.Lanes.{Lanes, same_lane, has, is_transition, is_higher, lanes_where, no_lanes, one, union, minus, intersection, transitions}
use Rattle.rx_sched.specs.declared.choice.Choice.{Choice}
use Rattle.rx_sched.specs.declared.choice.Choice.TheVariants as choice
use Rattle.rx_sched.specs.Deadlines.{Deadlines, no_deadlines, deadline_of, deadline_from, is_expired, timed}
use Rattle.rx_sched.specs.Links.{Links, no_links, linked_by, links_among, reached, IsAllReached}

-- what the scheduler keeps
pub record Schedule : Type 0 where
  pub pending : Lanes
  pub deadlines : Deadlines
  -- the lanes whose last render was deferred, and what those renders wait for, of each resource the least version
  pub suspended : Lanes
  pub waiting : Waiting
  pub links : Links
  -- the transition lane that the next event gets
  pub next_transition : Lane

-- lanes become pending, and get their deadlines
abbrev pub become_pending : ℕ → Lanes → Schedule → Schedule
become_pending now lanes s =
    record s { deadlines = timed s.deadlines (minus lanes s.pending) (deadline_from now); pending = union s.pending lanes }

-- lanes leave the pending ones, and their deadlines go
abbrev pub leave_pending : Lanes → Schedule → Schedule
leave_pending lanes s = record s { deadlines = timed s.deadlines lanes (λ l. None); pending = minus s.pending lanes }

-- lanes are suspended, and what their renders wait for is added. The deadline of each goes, unless it is expired by then.
abbrev pub suspend : ℕ → Lanes → Waiting → Schedule → Schedule
suspend now lanes waits s =
    record s {
      deadlines = timed s.deadlines (lanes_where (λ l. has lanes l && not (is_expired s.deadlines now l))) (λ l. None);
      suspended = union s.suspended lanes;
      waiting = waiting.union s.waiting waits;
    }

-- Nothing is suspended any more. A pending lane that has no deadline gets one, as if it became pending now.
abbrev pub wake : ℕ → Schedule → Schedule
wake now s =
    record s {
      deadlines = timed s.deadlines (lanes_where (λ l. has (intersection s.suspended s.pending) l && is_none (deadline_of s.deadlines l))) (deadline_from now);
      suspended = no_lanes;
      waiting = waiting.nothing;
    }

-- nothing is pending
abbrev pub empty_schedule : Schedule
empty_schedule =
    record {
      pending = no_lanes;
      deadlines = no_deadlines;
      suspended = no_lanes;
      waiting = waiting.nothing;
      links = no_links;
      next_transition = T1;
    }

-- at the start Default is pending
abbrev pub opening_schedule : Schedule
opening_schedule = become_pending 0 (one Default) empty_schedule

-- an update was accepted: its lane is pending, and nothing is suspended any more
abbrev pub after_update : Schedule → Lane → ℕ → Schedule
after_update s l now = become_pending now (one l) (wake now s)

-- a version of a resource got its value. It matters if the scheduler waits for it, and if a visible boundary does.
abbrev pub after_resolution : Schedule → (name version : ℕ) → (boundary_waits : Bool) → ℕ → Schedule
after_resolution s name version boundary_waits now =
    let woken = if waiting.has s.waiting name version then wake now s else s in
    if boundary_waits then become_pending now (one Retry) woken else woken

-- a render with these lanes was deferred
abbrev pub after_deferral : Schedule → Lanes → Waiting → ℕ → Schedule
after_deferral s lanes waits now = suspend now lanes waits s

-- a wait that lasts only as long as some lane is suspended
abbrev pub while_suspended : Lanes → Waiting → Waiting
while_suspended [] waits = waiting.nothing
while_suspended (l ∷ ls) waits = waits

-- what isn't pending any more is neither suspended nor linked
abbrev pub keep_pending : Schedule → Schedule
keep_pending s =
    let suspended = intersection s.suspended s.pending in
    record s { links = links_among s.links s.pending; suspended = suspended; waiting = while_suspended suspended s.waiting }

-- a render with these lanes was committed; of them and of Retry, some are pending again
abbrev pub after_commit : Schedule → Lanes → (still : Lanes) → ℕ → Schedule
after_commit s lanes still now = keep_pending (become_pending now still (leave_pending lanes s))

-- every two of these lanes are rendered together from now on
abbrev pub linked : Schedule → Lanes → Schedule
linked s lanes = record s { links = linked_by s.links lanes }

-- the transition lane that is claimed after another: T1 again after T16
abbrev pub next_claim : Lane → Lane
next_claim T1 = T2
next_claim T2 = T3
next_claim T3 = T4
next_claim T4 = T5
next_claim T5 = T6
next_claim T6 = T7
next_claim T7 = T8
next_claim T8 = T9
next_claim T9 = T10
next_claim T10 = T11
next_claim T11 = T12
next_claim T12 = T13
next_claim T13 = T14
next_claim T14 = T15
next_claim T15 = T16
next_claim _ = T1

-- an event claimed its transition lane
abbrev pub claimed : Schedule → Schedule
claimed s = record s { next_transition = next_claim s.next_transition }

-- What is rendered next

-- the highest of the lanes, and if that is a transition, all of them that are
abbrev pub same_rank : Lanes → Lanes
same_rank [] = no_lanes
same_rank (l ∷ ls) = if is_transition l then transitions (l ∷ ls) else one l

-- the lanes that a new render would begin with
abbrev pub first_lanes : Schedule → Lanes
first_lanes s = same_rank (minus s.pending s.suspended)

-- Default is rendered together with Input
abbrev pub with_default : Schedule → Lanes → Lanes
with_default s lanes = if has lanes Input && has s.pending Default then union lanes (one Default) else lanes

-- the lanes of a render that starts now: those it begins with, and all that are linked with them
abbrev pub lanes_to_start : Schedule → Lanes → Lanes
lanes_to_start s first = reached s.links s.pending (with_default s first)

-- a render that starts has the lanes that it begins with and all that are linked with them, and no others
abbrev pub StartsAllLinked : Schedule → Choice → Type 0
StartsAllLinked s made = (lanes : Lanes) → made ≡ choice.Start lanes → IsAllReached s.links s.pending (with_default s (first_lanes s)) lanes

-- a render in progress goes on, though a lane is pending
abbrev pub keeps_on : Lane → Lanes → Bool
keeps_on m [] = false
keeps_on m (l ∷ ls) = not (is_higher m l) || (same_lane m Default && list_any is_transition (l ∷ ls))

-- a render in progress goes on, if there is one
abbrev pub goes_on : Lane → Option Lanes → Bool
goes_on m None = false
goes_on m (Some lanes) = keeps_on m lanes

-- what is rendered next, from the lanes that a new render would begin with
abbrev pub choose : Schedule → (first : Lanes) → (in_progress : Option Lanes) → Choice
choose s [] in_progress = choice.None
choose s (m ∷ ms) in_progress = if goes_on m in_progress then choice.Keep else choice.Start (lanes_to_start s (m ∷ ms))

-- what is rendered next, from the lanes of the render in progress
abbrev pub next : Schedule → Option Lanes → Choice
next s in_progress = choose s (first_lanes s) in_progress

-- a render is cut into slices if it has only transition and Retry lanes and none has expired
abbrev pub is_sliced : Schedule → Lanes → ℕ → Bool
is_sliced s lanes now = list_all (λ l. (is_transition l || same_lane l Retry) && not (is_expired s.deadlines now l)) lanes
