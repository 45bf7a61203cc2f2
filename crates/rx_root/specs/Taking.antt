-- Steps that a root takes, and what they do to it.
use Rattle.std.specs.Prelude.{◌≡◌, ℕ, ◌+◌, ◌<◌, Option, Some, None, length, slice_get}
use Rattle.rx_lane.specs.declared.lane.Lane.{Lane}
use Rattle.rx_lane.specs.Lanes.{Lanes, one, union}
use Rattle.rx_ast.specs.Syntax.{Program}
use Rattle.rx_elem.specs.Spots.{Mounted, mounted}
use Rattle.rx_queue.specs.Journal.{hook}
use Rattle.rx_sched.specs.Schedule.{after_update, linked}
use Rattle.rx_step.specs.declared.step.Dispatch.{Dispatch}
use Rattle.rx_step.specs.declared.step.Dispatch.TheVariants as dispatch
use Rattle.rx_step.specs.Steps.{hook_name, path_of, word_of}
use Rattle.rx_model.specs.State.{State, hook_number, instance_found}
use Rattle.rx_model.specs.Accepting.{dispatched_for, op_of, unset_by}
use Rattle.rx_root.specs.declared.events.Sent.{Sent}
use Rattle.rx_root.specs.Rooted.{Rooted}

-- ---- dispatches

-- an instance of the committed tree is the one that a dispatch is for: this is its hook, one of those that the instance has, and what the dispatch does to it
pub record IsFor (p : Program) (s : State) (d : Dispatch) (sent : Sent) : Type 0 where
  pub place_in_tree : ℕ
  pub instance : Mounted
  pub there : slice_get (mounted s.tree) place_in_tree ≡ Some instance
  pub found : instance_found p s.tree (path_of d) ≡ Some instance
  pub number : sent.instance ≡ instance.number
  pub hook : sent.place ≡ hook_number p instance.component (hook_name d)
  pub below : sent.place < length instance.initials
  pub op : sent.op ≡ op_of p instance.component d

-- what a dispatch to a hook is for, or there is no such instance
abbrev pub IsTargetOf : Program → State → Dispatch → Option Sent → Type 0
IsTargetOf p s d None = instance_found p s.tree (path_of d) ≡ None
IsTargetOf p s d (Some sent) = IsFor p s d sent

-- a dispatch is to a hook of an instance that is not there
abbrev pub HasNoInstance : Program → State → Dispatch → Type 0
HasNoInstance p s (dispatch.Set word path name x) = instance_found p s.tree path ≡ None
HasNoInstance p s (dispatch.Call word path name f x) = instance_found p s.tree path ≡ None
HasNoInstance p s (dispatch.Send word path name x) = instance_found p s.tree path ≡ None
HasNoInstance p s (dispatch.Start word path name) = instance_found p s.tree path ≡ None
HasNoInstance p s (dispatch.Refresh word name) = ⊥

-- the state once what is sent is accepted by the hook that a dispatch is for
abbrev pub state_sent : State → Dispatch → Sent → State
state_sent s d sent = dispatched_for s (word_of d) (hook sent.instance sent.place) sent.op

-- the state after a dispatch to a hook
abbrev pub state_after : State → Dispatch → Sent → State
state_after s d sent = unset_by d (hook sent.instance sent.place) (state_sent s d sent)

-- a root after an update with this lane, which links lanes of its hook if it is a transition
abbrev pub root_accepted : Option Lanes → Lane → Rooted → Rooted
root_accepted None l v =
    record v { schedule = after_update v.schedule l v.now; updates = v.updates + 1; later = union v.later (one l) }
root_accepted (Some lanes) l v =
    record v { schedule = after_update (linked v.schedule lanes) l v.now; updates = v.updates + 1; event = record v.event { lane = Some l }; later = union v.later (one l) }
