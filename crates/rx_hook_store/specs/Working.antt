-- In which instances' hooks a render has work.
use Rattle.std.specs.Prelude.{◌≡◌, ◌<◌, ◌^◌, ℕ, Bool, true, false, List, Option, Some}
use Rattle.rx_base.specs.declared.cut.Cut.{Cut}
use Rattle.rx_lane.specs.Lanes.{Lanes}
use Rattle.rx_queue.specs.History.{Answers}
use Rattle.rx_hooks.specs.declared.hook.Hook.{Hook}
use Rattle.rx_hooks.specs.Hooks.{HookHistory, HooksStandFor}
use Rattle.rx_hook_store.specs.Gives.{has_work_in}

-- a render for these lanes at this cut has work in a history that hooks stand for
pub record HaveWork (lanes : Lanes) (cut : Cut) (hooks : List Hook) : Type 0 where
  pub answers : Answers
  pub histories : List HookHistory
  pub stand : HooksStandFor answers hooks histories
  pub has : has_work_in lanes cut histories ≡ true

-- no render, for any lanes at any cut, has work in hooks
abbrev pub AreIdle : List Hook → Type 0
AreIdle hooks = (answers : Answers) (histories : List HookHistory) → HooksStandFor answers hooks histories
    → (lanes : Lanes) (cut : Cut) → cut.updates < 2 ^ 64 → has_work_in lanes cut histories ≡ false

-- each instance in whose hooks a render for these lanes at this cut has work is one of these
abbrev pub AreAllWorking : Lanes → Cut → (kept : ℕ → Option (List Hook)) → (these : ℕ → Bool) → Type 0
AreAllWorking lanes cut kept these = (n : ℕ) (hooks : List Hook) → kept n ≡ Some hooks → HaveWork lanes cut hooks → these n ≡ true

-- and in the hooks of each of these it has work, by each history that they stand for
abbrev pub AreOnlyWorking : Lanes → Cut → (kept : ℕ → Option (List Hook)) → (these : ℕ → Bool) → Type 0
AreOnlyWorking lanes cut kept these =
    (n : ℕ) (answers : Answers) (hooks : List Hook) (histories : List HookHistory) → these n ≡ true → kept n ≡ Some hooks → HooksStandFor answers hooks histories
    → has_work_in lanes cut histories ≡ true
