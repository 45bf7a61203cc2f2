-- What is kept of one instance changes.
use Rattle.std.specs.Prelude.{◌≡◌, ℕ, false, nat_eq, List, Option, Some, None}
use Rattle.rx_lane.specs.Lanes.{Lanes}
use Rattle.rx_step.specs.declared.step.LaneWord.{LaneWord}
use Rattle.rx_step.specs.declared.step.LaneWord.TheVariants as word
use Rattle.rx_queue.specs.declared.update.Update.{Update}
use Rattle.rx_queue.specs.History.{Answers}
use Rattle.rx_hooks.specs.declared.hook.Hook.{Hook}
use Rattle.rx_hooks.specs.Hooks.{HookHistory, HooksStandFor, links_with, relinked, sent}

-- hooks that are kept change so: whatever histories they stood for, they stand for those after the change
pub record HooksChange (change : List HookHistory → List HookHistory) (old new : Option (List Hook)) : Type 0 where
  pub before : List Hook
  pub was : old ≡ Some before
  pub after : List Hook
  pub is : new ≡ Some after
  pub stand : (answers : Answers) (histories : List HookHistory) → HooksStandFor answers before histories → HooksStandFor answers after (change histories)

-- the hooks of one instance change so, and those of all others stay
pub record ChangesHooks (change : List HookHistory → List HookHistory) (instance : ℕ) (old new : ℕ → Option (List Hook)) : Type 0 where
  pub here : HooksChange change (old instance) (new instance)
  pub others : (k : ℕ) → nat_eq instance k ≡ false → new k ≡ old k

-- a hook after a dispatch: it is sent the update, and a transition links the update's lane with those of its lanes that are pending
abbrev pub dispatched_hook : LaneWord → Update → (pending : Lanes) → HookHistory → HookHistory
dispatched_hook word.Sync update pending hook = sent update hook
dispatched_hook word.Input update pending hook = sent update hook
dispatched_hook word.Default update pending hook = sent update hook
dispatched_hook word.Transition update pending hook = relinked update.lane pending (sent update hook)

-- what a dispatch tells of the lanes that its hook links from now on: only a transition links any
abbrev pub lanes_linked : LaneWord → Update → (pending linked : Lanes) → Option Lanes
lanes_linked word.Sync update pending linked = None
lanes_linked word.Input update pending linked = None
lanes_linked word.Default update pending linked = None
lanes_linked word.Transition update pending linked = Some (links_with update.lane pending linked)
