-- Which state of the machine a root stands for.
use Rattle.std.specs.Prelude.{◌≡◌, ℕ, ◌+◌, ◌*◌, ◌<◌, ◌^◌, Option, Some, None, length}
use Rattle.rx_lane.specs.declared.lane.Lane.{Lane}
use Rattle.rx_lane.specs.Lanes.{has}
use Rattle.rx_ast.specs.Syntax.{Program}
use Rattle.rx_rules.specs.Versions.{greatest_node_limit}
use Rattle.rx_queue.specs.Journal.{has_later}
use Rattle.rx_model.specs.State.{State, Progress}
use Rattle.rx_model.specs.HooksOf.{KeepsAllHooks}
use Rattle.rx_model.specs.Kept.{IsSet}
use Rattle.rx_model.specs.Laws.{IsReached}
use Rattle.rx_model.specs.Machine.{flush_limit}
use Rattle.rx_fiber.specs.Reading.{IsTreeOf}
use Rattle.rx_read.specs.Numbering.{IsAllNumbered}
use Rattle.rx_hook_store.specs.Store.{kept_hooks}
use Rattle.rx_hook_store.specs.Commits.{LinksBelow}
use Rattle.rx_commit.specs.Shown.{Shows}
use Rattle.rx_kept.specs.Keeping.{AreDeclared, KeepsResources}
use Rattle.rx_render.specs.Rendering.{HasNoRender, IfLeft}
use Rattle.rx_render.specs.Renders.{Renders}
use Rattle.rx_root.specs.Rooted.{Rooted}

-- a root goes on with a render of the machine: it stands where the render stands, after as many units and bodies, with the lanes of the updates since its cut
pub record GoesOnWith (p : Program) (s : State) (g : Progress) (v : Rooted) : Type 0 where
  pub renders : Renders p s g v.rendering
  pub units : v.rendering.units ≡ g.units
  pub bodies : v.rendering.bodies ≡ g.bodies
  -- some unit is left
  pub left : IfLeft v.rendering.at ⊥ → ⊥
  pub lanes_are_set : IsSet g.lanes
  pub later : (l : Lane) → has v.later l ≡ has_later g.cut s.journal l

-- a root has the render that the machine has in progress, if there is one
abbrev pub HasProgress : Program → State → Option Progress → Rooted → Type 0
HasProgress p s None v = HasNoRender v.rendering
HasProgress p s (Some g) v = GoesOnWith p s g v

-- A root stands for a state of the machine that a run comes to; this is asked of its render.
pub record StandsBy (p : Program) (s : State) (asks : Rooted → Type 0) (v : Rooted) : Type 0 where
  pub reached : IsReached p s
  pub program : v.rendering.program ≡ p
  pub current : IsTreeOf s.tree v.rendering.trees.current
  pub seen : v.rendering.seen ≡ s.seen
  pub numbered : IsAllNumbered v.rendering.trees
  pub keeps : KeepsAllHooks p s (kept_hooks v.rendering.hooks)
  pub below : LinksBelow s
  pub shows : Shows s.tree s.passive v.shown
  pub schedule : v.schedule ≡ s.schedule
  pub commits : v.commits ≡ s.commits
  pub updates : v.updates ≡ length s.journal.updates
  pub resolutions : v.resolutions ≡ length s.journal.resolutions
  pub resources : KeepsResources p s.journal s.linked v.resources
  pub now : v.now ≡ s.now
  pub event : v.event ≡ s.event
  pub numbers : v.numbers ≡ s.numbers
  pub declared : AreDeclared p s.journal
  pub progress : asks v

-- a root stands for a state, with this render in progress, if there is one, in place of the state's own
abbrev pub StandsWith : Program → State → Option Progress → Rooted → Type 0
StandsWith p s progress v = StandsBy p s (HasProgress p s progress) v

-- a root stands for a state of the machine that a run comes to, with its render
abbrev pub Stands : Program → State → Rooted → Type 0
Stands p s v = StandsWith p s s.progress v

-- a root stands for some state of the machine
abbrev pub StandsForSome : Rooted → Type 0
StandsForSome v = (s : State) × Stands v.rendering.program s v

-- A root stands for a state of the machine that a run comes to, but for its render: one that was in progress is given up.
abbrev pub StandsButForRender : Program → State → Rooted → Type 0
StandsButForRender p s v = StandsBy p s (λ w. Unit {0}) v

-- the numbers of a root leave room for so many steps more, each of which accepts two updates at most
pub record HasRoomFor (steps : ℕ) (v : Rooted) : Type 0 where
  pub updates : v.updates + 2 * steps < 2 ^ 62
  pub resolutions : v.resolutions + steps < 2 ^ 62
  pub commits : v.commits + flush_limit * steps < 2 ^ 62
  pub instances : v.numbers.instance + greatest_node_limit * (flush_limit * steps) < 2 ^ 62
  pub hosts : v.numbers.host + greatest_node_limit * (flush_limit * steps) < 2 ^ 62
