-- What a render makes of the kept hooks, and what its commit finds.
use Rattle.std.specs.Prelude.{◌≡◌, ℕ, ℤ, false, nat_eq, List, map, Option, Some}
use Rattle.rx_base.specs.declared.cut.Cut.{Cut}
use Rattle.rx_lane.specs.Lanes.{Lanes}
use Rattle.rx_ast.specs.Syntax.{Program}
use Rattle.rx_queue.specs.History.{Answers}
use Rattle.rx_hooks.specs.declared.hook.Hook.{Hook}
use Rattle.rx_hooks.specs.Hooks.{AllAboveDone, HookHistory, HooksStandFor, rendered}
use Rattle.rx_meaning.specs.Expressions.{answers_of}
use Rattle.rx_model.specs.State.{State}
use Rattle.rx_model.specs.HooksOf.{AreHooksFrom}

-- The hooks of one instance are rendered for these lanes at this cut: whatever histories they stood for, they stand for those after the render. All others stay.
pub record RendersHooks (answers : Answers) (lanes : Lanes) (cut : Cut) (instance : ℕ) (old new : ℕ → Option (List Hook)) : Type 0 where
  pub before : List Hook
  pub was : old instance ≡ Some before
  pub after : List Hook
  pub is : new instance ≡ Some after
  pub stand : (histories : List HookHistory) → HooksStandFor answers before histories → AllAboveDone cut histories
      → HooksStandFor answers after (map (rendered lanes cut) histories)
  pub others : (k : ℕ) → nat_eq instance k ≡ false → new k ≡ old k

-- hooks are those that a render for these lanes at this cut processed last: they stand for what it made of these histories
abbrev pub AreRendered : Answers → Lanes → Cut → List Hook → List HookHistory → Type 0
AreRendered answers lanes cut hooks histories = HooksStandFor answers hooks (map (rendered lanes cut) histories)

-- hooks of the instance are kept, and stand for what the machine's state says of it, with these values at mount
pub record KeepsInstance (p : Program) (s : State) (kept : ℕ → Option (List Hook)) (instance : ℕ) (initials : List ℤ) : Type 0 where
  pub hooks : List Hook
  pub kept_is : kept instance ≡ Some hooks
  pub histories : List HookHistory
  pub stand : HooksStandFor (answers_of p) hooks histories
  pub are_of : AreHooksFrom s instance 0 initials histories

-- the same, and a render for these lanes at this cut processed these hooks last
pub record IsRendered (p : Program) (s : State) (lanes : Lanes) (cut : Cut) (kept : ℕ → Option (List Hook)) (instance : ℕ) (initials : List ℤ) : Type 0 where
  pub hooks : List Hook
  pub kept_is : kept instance ≡ Some hooks
  pub histories : List HookHistory
  pub stand : AreRendered (answers_of p) lanes cut hooks histories
  pub are_of : AreHooksFrom s instance 0 initials histories
