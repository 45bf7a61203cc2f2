-- What stays along a render, and what is left of one that is given up.
use Rattle.std.specs.Prelude.{◌≡◌}
use Rattle.rx_meaning.specs.Settled.{DoneBefore}
use Rattle.rx_model.specs.State.{State, Progress}
use Rattle.rx_model.specs.HooksOf.{KeepsAllHooks}
use Rattle.rx_hook_store.specs.Store.{kept_hooks}
use Rattle.rx_render.specs.declared.at.At.TheVariants.{Over}
use Rattle.rx_render.specs.Rendering.{Rendering, HasNoRender}
use Rattle.rx_render.specs.Renders.{Renders}

-- hooks that stood for a state still do, if what is done lies before the cut
abbrev pub KeepsHooks : (before after : Rendering) → Type 0
KeepsHooks x y = (st : State) → DoneBefore x.cut st.journal.updates → KeepsAllHooks x.program st (kept_hooks x.hooks) → KeepsAllHooks y.program st (kept_hooks y.hooks)

-- a rendering goes on: the program, the current tree, what the last commit saw and what the render sees stay, hooks stand for what they stood for, and a render that was in progress still is
pub record Proceeds (x y : Rendering) : Type 0 where
  pub program : y.program ≡ x.program
  pub current : y.trees.current ≡ x.trees.current
  pub lanes : y.lanes ≡ x.lanes
  pub cut : y.cut ≡ x.cut
  pub resources : y.resources ≡ x.resources
  pub seen : y.seen ≡ x.seen
  pub keeps : KeepsHooks x y
  pub renders : (st : State) (g : Progress) → Renders x.program st g x → Renders y.program st g y

-- a unit breaks off: the program, the current tree and what the last commit saw stay, hooks stand for what they stood for, and no unit is left
pub record UnitBreaksOff (x y : Rendering) : Type 0 where
  pub program : y.program ≡ x.program
  pub current : y.trees.current ≡ x.trees.current
  pub seen : y.seen ≡ x.seen
  pub keeps : KeepsHooks x y
  pub over : y.at ≡ Over

-- a render is given up: the program, the current tree and what the last commit saw stay, hooks stand for what they stood for, and nothing is in progress
pub record GivesUp (x y : Rendering) : Type 0 where
  pub program : y.program ≡ x.program
  pub current : y.trees.current ≡ x.trees.current
  pub seen : y.seen ≡ x.seen
  pub keeps : KeepsHooks x y
  pub idle : HasNoRender y
