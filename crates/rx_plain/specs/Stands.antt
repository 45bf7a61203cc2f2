-- Which states of the machine the plain machine stands for.
use Rattle.std.specs.Prelude.{◌≡◌, ℕ, ◌+◌, ◌*◌, ◌<◌, ◌≤◌, ◌^◌, Option, Some, None, length}
use Rattle.rx_lane.specs.declared.lane.Lane.{Lane}
use Rattle.rx_lane.specs.Lanes.{has}
use Rattle.rx_ast.specs.Syntax.{Program}
use Rattle.rx_rules.specs.Versions.{greatest_node_limit}
use Rattle.rx_meaning.specs.Settled.{DoneBefore}
use Rattle.rx_queue.specs.Journal.{has_later}
use Rattle.rx_model.specs.Committing.{sight_of}
use Rattle.rx_model.specs.HooksOf.{KeepsAllHooks}
use Rattle.rx_model.specs.Kept.{IsSet}
use Rattle.rx_model.specs.Laws.{IsReached}
use Rattle.rx_model.specs.Machine.{flush_limit}
use Rattle.rx_model.specs.State.{Progress, State}
use Rattle.rx_hook_store.specs.Commits.{LinksBelow}
use Rattle.rx_hook_store.specs.Store.{kept_hooks}
use Rattle.rx_fresh.specs.Evaluated.{AreEvaluated}
use Rattle.end_laws.specs.Trimmed.{trimmed_if}
use Rattle.rx_kept.specs.Keeping.{AreDeclared, KeepsResources}
use Rattle.rx_kept.specs.Seeing.{AreSeen}
use Rattle.rx_plain.specs.Plained.{Going, Plained}

-- A render goes on with one of the machine, but for the bodies: it has the same lanes and the same cut, which lies behind what is done and before what has yet to come; it sees the same of the resources, and has used as many units, of which the machine's had a body each at most.
pub record GoesOnWith (p : Program) (s : State) (g : Progress) (x : Going) : Type 0 where
  pub lanes : x.lanes ≡ g.lanes
  pub cut : x.cut ≡ g.cut
  pub done : DoneBefore g.cut s.journal.updates
  pub updates : g.cut.updates ≤ length s.journal.updates
  pub resolutions : g.cut.resolutions ≤ length s.journal.resolutions
  pub seen : AreSeen (sight_of p s g) x.seen
  pub units : x.units ≡ g.units
  pub bodies : g.bodies ≤ g.units
  pub lanes_are_set : IsSet g.lanes
  pub later : (l : Lane) → has x.later l ≡ has_later g.cut s.journal l

-- there is a render in progress exactly if the machine has one, and it goes on with that
abbrev pub HasProgress : Program → State → Option Progress → Option Going → Type 0
HasProgress p s None None = Unit {0}
HasProgress p s (Some g) (Some x) = GoesOnWith p s g x
HasProgress p s None (Some x) = ⊥
HasProgress p s (Some g) None = ⊥

-- The plain machine stands for a state that a run comes to, but for the bodies of its render in progress, of which this is asked.
pub record StandsBy (p : Program) (s : State) (asks : Option Going → Type 0) (v : Plained) : Type 0 where
  pub reached : IsReached p s
  pub tree : v.tree ≡ trimmed_if s.tree
  pub keeps : KeepsAllHooks p s (kept_hooks v.hooks)
  pub below : LinksBelow s
  pub evaluated : AreEvaluated p v.evaluations
  pub schedule : v.schedule ≡ s.schedule
  pub commits : v.commits ≡ s.commits
  pub seen : v.seen ≡ s.seen
  pub updates : v.updates ≡ length s.journal.updates
  pub resolutions : v.resolutions ≡ length s.journal.resolutions
  pub resources : KeepsResources p s.journal s.linked v.resources
  pub now : v.now ≡ s.now
  pub event : v.event ≡ s.event
  pub numbers : v.numbers ≡ s.numbers
  pub passive : v.passive ≡ s.passive
  pub declared : AreDeclared p s.journal
  pub progress : asks v.going

-- it stands for a state, with this render in progress, if there is one, in place of the state's own
abbrev pub StandsWith : Program → State → Option Progress → Plained → Type 0
StandsWith p s progress v = StandsBy p s (HasProgress p s progress) v

-- it stands for a state, with its render
abbrev pub StandsFor : Program → State → Plained → Type 0
StandsFor p s v = StandsWith p s s.progress v

-- it stands for some state
abbrev pub StandsForSome : Program → Plained → Type 0
StandsForSome p v = (s : State) × StandsFor p s v

-- its numbers leave room for so many steps more, each of which accepts two updates at most
pub record HasRoomFor (steps : ℕ) (v : Plained) : Type 0 where
  pub updates : v.updates + 2 * steps < 2 ^ 62
  pub resolutions : v.resolutions + steps < 2 ^ 62
  pub commits : v.commits + flush_limit * steps < 2 ^ 62
  pub instances : v.numbers.instance + greatest_node_limit * (flush_limit * steps) < 2 ^ 62
  pub hosts : v.numbers.host + greatest_node_limit * (flush_limit * steps) < 2 ^ 62

-- it stands for some state, with a render in progress
pub record HasSomeProgress (p : Program) (v : Plained) : Type 0 where
  pub state : State
  pub progress : Progress
  pub stands : StandsWith p state (Some progress) v

-- its numbers leave room for so many turns more, each with one commit at most
pub record HasRoomForTurns (turns : ℕ) (v : Plained) : Type 0 where
  pub commits : v.commits + turns < 2 ^ 62
  pub instances : v.numbers.instance + greatest_node_limit * turns < 2 ^ 62
  pub hosts : v.numbers.host + greatest_node_limit * turns < 2 ^ 62

-- after so many turns at most there is room for those that follow, and nothing was accepted
pub record LeavesRoom (turns : ℕ) (old new : Plained) : Type 0 where
  pub room : (more : ℕ) → HasRoomForTurns (turns + more) old → HasRoomForTurns more new
  pub updates : new.updates ≡ old.updates
  pub resolutions : new.resolutions ≡ old.resolutions
