-- What a queue keeps, and which histories it stands for.
use Rattle.std.specs.Prelude.{◌≡◌, true, if◌then◌else◌, Bool, List, [], ◌∷◌, ℕ, ℤ}
use Rattle.std.specs.List.{list_any, AllByRecursion}
use Rattle.rx_base.specs.declared.cut.Cut.{Cut}
use Rattle.rx_lane.specs.Lanes.{Lanes}
use Rattle.rx_queue.specs.declared.entry.Entry.{Entry}
use Rattle.rx_queue.specs.declared.queue.Processed.{Processed}
use Rattle.rx_queue.specs.declared.queue.Work.{Work}
use Rattle.rx_queue.specs.declared.queue.Work.TheVariants.{New, Owed, Nothing}
use Rattle.rx_queue.specs.History.{Answers, History, applied, is_done, was_included, state_from, committed_value, is_new, is_owed_before}

-- a queue keeps a base state, the committed value, and the base queue: updates that are not folded into the base state; and room for how many more updates
pub record Kept : Type 0 where
  pub base : ℤ
  pub committed : ℤ
  pub queue : List Entry
  pub room : ℕ

-- the updates from the first one that is not done on
abbrev pub base_queue : List Entry → List Entry
base_queue [] = []
base_queue (e ∷ entries) = if is_done e then base_queue entries else e ∷ entries

-- the state after the updates before the first one that fails a test
abbrev pub state_before : Answers → (Entry → Bool) → ℤ → List Entry → ℤ
state_before answers test state [] = state
state_before answers test state (e ∷ entries) = if test e then state_before answers test (applied answers state e.update.op) entries else state

-- the queue stands for the history: the base queue is the updates from the first one that is not done on, the base state is what those before it give, and the committed value is the history's
pub record StandsFor (answers : Answers) (kept : Kept) (history : History) : Type 0 where
  pub queue_is : kept.queue ≡ base_queue history.entries
  pub base_is : kept.base ≡ state_before answers is_done history.initial history.entries
  pub committed_is : kept.committed ≡ committed_value answers history

-- this is what the last processing of the hook gave: the state after what it included, and the state after what it included before the first update that it left out
pub record IsLast (answers : Answers) (history : History) (processed : Processed) : Type 0 where
  pub value_is : processed.value ≡ state_from answers was_included history.initial history.entries
  pub base_is : processed.base ≡ state_before answers was_included history.initial history.entries
  pub done_included : AllByRecursion (λ e. is_done e ≡ true → was_included e ≡ true) history.entries

-- a render has new work in a hook if it includes an update that is neither done nor owed, else owed work if it includes an owed one, else none
abbrev pub work_of : Lanes → Cut → List Entry → Work
work_of lanes cut entries = if list_any (is_new lanes cut) entries then New else (if list_any (is_owed_before cut) entries then Owed else Nothing)
