-- Which kept hooks give a render the values of an instance's hooks, and whether it has work or news in them.
use Rattle.std.specs.Prelude.{◌≡◌, ℕ, ℤ, Bool, ◌&&◌, not, List, map, Option, Some}
use Rattle.std.specs.List.{list_any}
use Rattle.rx_base.specs.declared.cut.Cut.{Cut}
use Rattle.rx_lane.specs.Lanes.{Lanes, no_lanes}
use Rattle.rx_queue.specs.declared.entry.Entry.{Entry}
use Rattle.rx_queue.specs.History.{Answers, committed_value, is_done, is_included, is_new}
use Rattle.rx_hooks.specs.declared.hook.Hook.{Hook}
use Rattle.rx_hooks.specs.Hooks.{AllAboveDone, HookHistory, HooksStandFor, states_of}
use Rattle.rx_meaning.specs.Expressions.{answers_of}
use Rattle.rx_meaning.specs.Fresh.{Sight, hook_values}
use Rattle.rx_meaning.specs.Settled.{done_values, known_by}
use Rattle.commit_laws.specs.WaitsAgain.{without_lanes}

-- the committed values of all hooks, in their order
abbrev pub committed_of : Answers → List HookHistory → List ℤ
committed_of answers histories = map (λ h. committed_value answers h.updates) histories

-- Hooks of the instance are kept. They stand for histories whose done updates lie before the cut, whose states for the lanes of the render are the values that it sees, whose states for no lanes are those that a render without lanes sees, and whose committed values are those that the done updates give.
pub record GivesValues (s : Sight) (kept : ℕ → Option (List Hook)) (instance : ℕ) (initials : List ℤ) : Type 0 where
  pub hooks : List Hook
  pub kept_is : kept instance ≡ Some hooks
  pub histories : List HookHistory
  pub stand : HooksStandFor (answers_of s.program) hooks histories
  pub above_done : AllAboveDone s.cut histories
  pub values_are : states_of (answers_of s.program) s.lanes s.cut histories ≡ hook_values s instance initials
  pub without_are : states_of (answers_of s.program) no_lanes s.cut histories ≡ hook_values (without_lanes s) instance initials
  pub done_are : committed_of (answers_of s.program) histories ≡ done_values s.program (known_by s) instance initials

-- a render with these lanes at this cut has work in an update: it is included and not done
abbrev pub has_work_in_update : Lanes → Cut → Entry → Bool
has_work_in_update lanes cut e = is_included lanes cut e && not (is_done e)

-- a render has work in hooks if it has work in an update of one of their histories
abbrev pub has_work_in : Lanes → Cut → List HookHistory → Bool
has_work_in lanes cut histories = list_any (λ h. list_any (has_work_in_update lanes cut) h.updates.entries) histories

-- a render has news in hooks if an included update of one of their histories is neither done nor owed
abbrev pub has_news_in : Lanes → Cut → List HookHistory → Bool
has_news_in lanes cut histories = list_any (λ h. list_any (is_new lanes cut) h.updates.entries) histories
