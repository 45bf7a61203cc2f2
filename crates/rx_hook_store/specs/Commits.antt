-- What a commit makes of the hooks that are kept.
use Rattle.std.specs.Prelude.{◌≡◌, ◌≤◌, ℕ, ℤ, true, false, List, map, Option, Some}
use Rattle.rx_lane.specs.Lanes.{no_lanes}
use Rattle.rx_ast.specs.Syntax.{Program}
use Rattle.rx_elem.specs.Spots.{Mounted}
use Rattle.rx_queue.specs.History.{Answers}
use Rattle.rx_queue.specs.Journal.{hook}
use Rattle.rx_hooks.specs.declared.hook.Hook.{Hook}
use Rattle.rx_hooks.specs.Hooks.{HooksStandFor, committed_hook, mounted, owed_hook}
use Rattle.rx_model.specs.State.{Progress, State, linked_lanes}
use Rattle.rx_hook_store.specs.Gives.{has_work_in}
use Rattle.rx_hook_store.specs.Rendered.{IsRendered, KeepsInstance}
use Rattle.rx_hook_store.specs.Changing.{HooksChange}

-- the hooks that are kept are those at mount, with these values
pub record AreMounted (initials : List ℤ) (kept : Option (List Hook)) : Type 0 where
  pub hooks : List Hook
  pub is : kept ≡ Some hooks
  pub stand : (answers : Answers) → HooksStandFor answers hooks (map mounted initials)

-- What a commit makes of the hooks of an instance of its tree: of one that is shown, what its render included is done; one that is kept hidden is owed what lies before the cut; a new one has its hooks at mount. One in whose hooks the render has no work keeps them.
pub data SettlesHooks (p : Program) (s : State) (g : Progress) (old new : ℕ → Option (List Hook)) (m : Mounted) : Type 0 where
  shown : m.visible ≡ true → IsRendered p s g.lanes g.cut old m.number m.initials → HooksChange (map committed_hook) (old m.number) (new m.number) → SettlesHooks p s g old new m
  hidden : m.visible ≡ false → KeepsInstance p s old m.number m.initials → HooksChange (map (owed_hook g.lanes g.cut)) (old m.number) (new m.number) → SettlesHooks p s g old new m
  untouched : (kept : KeepsInstance p s old m.number m.initials) → has_work_in g.lanes g.cut kept.histories ≡ false → new m.number ≡ old m.number → SettlesHooks p s g old new m
  made : s.numbers.instance ≤ m.number → AreMounted m.initials (new m.number) → SettlesHooks p s g old new m

-- no hook of an instance that has yet to come links a lane
abbrev pub LinksBelow : State → Type 0
LinksBelow s = (k i : ℕ) → s.numbers.instance ≤ i → linked_lanes s.linked (hook i k) ≡ no_lanes
