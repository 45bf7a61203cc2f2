-- The instances of a list in whose hooks a render has work.
use Rattle.std.specs.Prelude.{◌≡◌, ◌<◌, ℕ, Bool, true, false, List, map, Option, Some, slice_get}
use Rattle.std.specs.Borrow.{Bor}
use Rattle.rx_base.specs.declared.cut.Cut.{Cut}
use Rattle.rx_lane.specs.Lanes.{Lanes}
use Rattle.rx_elem.specs.Spots.{Mounted}
use Rattle.rx_queue.specs.History.{Answers}
use Rattle.rx_hooks.specs.declared.hook.Hook.{Hook}
use Rattle.rx_hooks.specs.Hooks.{HookHistory, HooksStandFor}
use Rattle.rx_hook_store.specs.Gives.{has_work_in}
use Rattle.rx_settle.specs.Passes.{AreApart, TellsOf, has_instance}

-- the instances that references stand for
abbrev pub seen : List (Bor Mounted) → List Mounted
seen = map (λ r. r.now)

-- each instance of a list is one of another list
abbrev pub AreIn : (ms ws : List Mounted) → Type 0
AreIn ms ws = (k : ℕ) (m : Mounted) → slice_get ws k ≡ Some m → (j : ℕ) × (slice_get ms j ≡ Some m)

-- Some instances of a list are found, no two with one number: no number came into a set, each that left it is that of one of them, none of theirs is still in it, and neither is any of the first so many instances of the list.
pub record AreTaken (old new : ℕ → Bool) (ms : List Mounted) (count : ℕ) (ws : List Mounted) : Type 0 where
  pub within : AreIn ms ws
  pub apart : AreApart ws
  pub were_in : (n : ℕ) → new n ≡ true → old n ≡ true
  pub are_out : (n : ℕ) → has_instance ws n ≡ true → new n ≡ false
  pub taken : (n : ℕ) → old n ≡ true → new n ≡ false → has_instance ws n ≡ true
  pub passed : (k : ℕ) → k < count → (m : Mounted) → slice_get ms k ≡ Some m → new m.number ≡ false

-- some instances of a list are found, no two with one number, and in the hooks of any other of the list a render has no work
pub record HasWorking (lanes : Lanes) (cut : Cut) (kept : ℕ → Option (List Hook)) (ms ws : List Mounted) : Type 0 where
  pub within : AreIn ms ws
  pub apart : AreApart ws
  pub rest : (k : ℕ) (m : Mounted) → slice_get ms k ≡ Some m → has_instance ws m.number ≡ false → TellsOf lanes cut (kept m.number) false

-- a render has work in the hooks of an instance that is none of a list
pub record HasWorkElsewhere (lanes : Lanes) (cut : Cut) (kept : ℕ → Option (List Hook)) (ms : List Mounted) : Type 0 where
  pub number : ℕ
  pub elsewhere : has_instance ms number ≡ false
  pub works : (answers : Answers) (hooks : List Hook) (histories : List HookHistory) → kept number ≡ Some hooks → HooksStandFor answers hooks histories
      → has_work_in lanes cut histories ≡ true
