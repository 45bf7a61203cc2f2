-- Turns of a root, by the turns of the machine.
use Rattle.rx_sched.specs.Events.{no_event}
use Rattle.std.specs.Prelude.{◌≡◌, ℕ, ◌+◌, ◌*◌, ◌<◌, ◌≤◌, ◌^◌, [], Option, Some, length, if◌then◌else◌}
use Rattle.rx_lane.specs.declared.lane.Lane.{Lane}
use Rattle.rx_lane.specs.declared.lane.Lane.TheVariants as lane
use Rattle.rx_lane.specs.Lanes.{Lanes, has}
use Rattle.rx_ast.specs.Syntax.{Program}
use Rattle.rx_rules.specs.Versions.{greatest_node_limit}
use Rattle.rx_elem.specs.Trees.{Node}
use Rattle.rx_elem.specs.Numbers.{numbered}
use Rattle.rx_queue.specs.Journal.{has_later}
use Rattle.rx_meaning.specs.Fresh.{fresh, made}
use Rattle.rx_effect.specs.EffectLog.{Passive, no_passive}
use Rattle.rx_forest.specs.Forests.{forest_of}
use Rattle.rx_forest.specs.Hosts.{hosts}
use Rattle.rx_host.specs.Kept.{forest_kept}
use Rattle.rx_lines.specs.Lines.{Counts, Written}
use Rattle.rx_model.specs.State.{State, Progress}
use Rattle.rx_model.specs.Stretch.{Stretch}
use Rattle.rx_model.specs.Committing.{sight_of, bodies_since, ended}
use Rattle.rx_model.specs.Turns.{AnyRender, Finishes, Yields, GoesOn}
use Rattle.rx_model.specs.Machine.{FlushWithin}
use Rattle.rx_model.specs.Kept.{IsSet}
use Rattle.rx_model.specs.Laws.{IsReached}
use Rattle.cost_laws.specs.Places.{AreEvaluated, evaluated_places}
use Rattle.rx_links.specs.Drafts.{grafted}
use Rattle.rx_fiber.specs.Reading.{IsTreeOf}
use Rattle.rx_pruned.specs.Besides.{IsBeside}
use Rattle.rx_pruned.specs.declared.beside.Beside.{Beside}
use Rattle.end_laws.specs.Trimmed.{trimmed, trimmed_if}
use Rattle.host_laws.specs.Commits.{IsCommit, TextsAreLeaves}
use Rattle.prune_laws.specs.Present.{IfHasNoNull}
use Rattle.rx_commit.specs.Shown.{CanCommit, Prepared, Prepares, Shown, Shows}
use Rattle.rx_writing.specs.Written.{with_lines}
use Rattle.rx_render.specs.declared.at.At.TheVariants.{Over}
use Rattle.rx_render.specs.Renders.{Renders}
use Rattle.rx_kept.specs.Seeing.{resources_by}
use Rattle.rx_render.specs.Turning.{KeepsHooks}
use Rattle.rx_root.specs.Rooted.{Rooted}
use Rattle.rx_root.specs.Stands.{StandsBy, StandsButForRender, StandsWith, Stands}
use Rattle.rx_kept.specs.Keeping.{AreDeclared, KeepsResources}

-- the numbers of a root leave room for so many turns more, each with one commit at most
pub record HasRoomForTurns (turns : ℕ) (v : Rooted) : Type 0 where
  pub commits : v.commits + turns < 2 ^ 62
  pub instances : v.numbers.instance + greatest_node_limit * turns < 2 ^ 62
  pub hosts : v.numbers.host + greatest_node_limit * turns < 2 ^ 62

-- the units and bodies of the render of a root
abbrev pub counts_of : Rooted → Counts
counts_of v = record { units = v.rendering.units; bodies = v.rendering.bodies }

-- a root is at the end of a render of the machine, whose tree this is
pub record IsAtEndOf (p : Program) (s : State) (g : Progress) (tree : Node) (v : Rooted) : Type 0 where
  pub renders : Renders p s g v.rendering
  pub over : v.rendering.at ≡ Over
  pub there : IsTreeOf (Some tree) (grafted v.rendering.trees.draft)
  pub gives : fresh (sight_of p s g) s.tree ≡ made tree
  pub lanes_are_set : IsSet g.lanes
  pub later : (l : Lane) → has v.later l ≡ has_later g.cut s.journal l

-- a root stands at the end of a render of the machine, from a state that a run comes to
abbrev pub StandsAtEnd : Program → State → Progress → (tree : Node) → Rooted → Type 0
StandsAtEnd p s g tree v = StandsBy p s (IsAtEndOf p s g tree) v

-- it stands at some end
pub record IsAtSomeEnd (v : Rooted) : Type 0 where
  pub program : Program
  pub state : State
  pub progress : Progress
  pub tree : Node
  pub stands : StandsAtEnd program state progress tree v

-- it stands for some state, with a render in progress
pub record HasSomeProgress (v : Rooted) : Type 0 where
  pub program : Program
  pub state : State
  pub progress : Progress
  pub stands : StandsWith program state (Some progress) v

-- it stands for some state between two events
pub record StandsBetween (v : Rooted) : Type 0 where
  pub program : Program
  pub state : State
  pub stands : Stands program state v
  pub between : state.event ≡ no_event

-- what a root knows of the time since a render began: what is kept of the resources now and what the render sees of them, and the lanes of the updates since its cut
pub record KnowsSince (p : Program) (s : State) (g : Progress) (v : Rooted) : Type 0 where
  pub program : v.rendering.program ≡ p
  pub resources : KeepsResources p s.journal s.linked v.resources
  pub seen : v.rendering.resources ≡ resources_by (sight_of p s g)
  pub lanes : v.rendering.lanes ≡ g.lanes
  pub declared : AreDeclared p s.journal
  pub later : (l : Lane) → has v.later l ≡ has_later g.cut s.journal l

-- it knows so of some render
pub record KnowsSinceSome (v : Rooted) : Type 0 where
  pub program : Program
  pub state : State
  pub progress : Progress
  pub knows : KnowsSince program state progress v

-- the new nodes of the tree at the end of a render have their numbers
pub record HasNumbered (p : Program) (s : State) (g : Progress) (tree : Node) (old new : Rooted) : Type 0 where
  pub there : IsTreeOf (Some (numbered s.numbers tree).1) (grafted new.rendering.trees.draft)
  pub next : new.numbers ≡ (numbered s.numbers tree).0
  pub rest : new ≡ record old { numbers = new.numbers; rendering = record old.rendering { trees = record old.rendering.trees { draft = new.rendering.trees.draft } } }

-- a stretch of the machine is done: the root stands for the state after it, and its lines are written
pub record HasDone (p : Program) (r : Stretch) (v : Rooted) (log new : Written) : Type 0 where
  pub stands : Stands p r.after v
  pub written : new ≡ with_lines log r.lines

-- a stretch of which this holds is done, and its bodies are counted
pub record Takes (p : Program) (asks : Stretch → Type 0) (v : Rooted) (log new : Written) (steps counted : ℕ) : Type 0 where
  pub stretch : Stretch
  pub asked : asks stretch
  pub done : HasDone p stretch v log new
  pub bodies : counted ≡ steps + stretch.bodies

-- each stretch in which a render goes on ends in a state that a run comes to
abbrev pub LeadsOn : Program → State → Progress → (budget : Option ℕ) → Type 0
LeadsOn p s g budget = (r : Stretch) → GoesOn AnyRender p s g budget r → IsReached p r.after

-- the passive effects that a commit leaves pending: none, if it has the lane Sync
abbrev pub passive_left : Lanes → Passive → Passive
passive_left lanes passive = if has lanes lane.Sync then no_passive else passive

-- A render in progress is finished within its slice: the root is at its end, and its bodies are counted.
pub record HasFinished (p : Program) (s : State) (g : Progress) (slice : Option ℕ) (v : Rooted) (steps counted : ℕ) : Type 0 where
  pub tree : Node
  pub finishes : Finishes p s g slice (ended s g (counts_of v) tree)
  pub stands : StandsBy p s (IsAtEndOf p s g tree) v
  pub bodies : counted ≡ steps + bodies_since g (counts_of v)
  -- it has evaluated the bodies of the places that the render evaluates
  pub evaluated : g.bodies + bodies_since g (counts_of v) ≡ length (evaluated_places (sight_of p s g) s.tree)
  pub are : AreEvaluated (sight_of p s g) s.tree

-- A render in progress has used up its slice: the root stands for a state with what is left of it, and its bodies are counted.
pub record HasYielded (p : Program) (s : State) (g : Progress) (slice : Option ℕ) (v : Rooted) (steps counted : ℕ) : Type 0 where
  pub stretch : Stretch
  pub yields : Yields p s g slice stretch
  pub stands : IsReached p stretch.after → Stands p stretch.after v
  pub silently : stretch.lines ≡ []
  pub bodies : counted ≡ steps + stretch.bodies
  -- it has evaluated no more bodies so far than those of the places that the render evaluates
  pub few : g.bodies + stretch.bodies ≤ length (evaluated_places (sight_of p s g) s.tree)

-- after so many turns at most there is room for those that follow, and nothing was accepted
pub record LeavesRoom (turns : ℕ) (old new : Rooted) : Type 0 where
  pub room : (more : ℕ) → HasRoomForTurns (turns + more) old → HasRoomForTurns more new
  pub updates : new.updates ≡ old.updates
  pub resolutions : new.resolutions ≡ old.resolutions

-- What is shown is that of an old tree and its passive effects; the finished tree is the new one, related to the old one as a commit relates them; this is what is left of both, without the vacant places at the ends of their lists; and no node of the old one is one of null.
pub record CanFollow (old : Option Node) (passive : Passive) (new : Node) (b : Beside) (v : Rooted) : Type 0 where
  pub shows : Shows old passive v.shown
  pub there : IsTreeOf (Some new) (grafted v.rendering.trees.draft)
  pub beside : IsBeside (trimmed_if old) (trimmed new) b
  pub present : IfHasNoNull old
  pub commits : IsCommit old new
  pub leaves : TextsAreLeaves new

-- some new tree can follow
pub record CanShow (b : Beside) (v : Rooted) : Type 0 where
  pub old : Option Node
  pub passive : Passive
  pub new : Node
  pub follows : CanFollow old passive new b v

-- so many renders at most are left to finish until nothing is to be rendered
abbrev pub CanFlush : (limit : ℕ) → Program → State → Type 0
CanFlush limit p s = (r : Stretch) × FlushWithin AnyRender limit p s r

-- it stands for some state between two events, from which so many renders at most are left to finish
pub record FlushesFrom (limit : ℕ) (v : Rooted) : Type 0 where
  pub program : Program
  pub state : State
  pub stands : Stands program state v
  pub between : state.event ≡ no_event
  pub ends : CanFlush limit program state

-- A commit is prepared: what is shown is that of the old tree and can take it, it is that of the new tree, and the trees are related as a commit relates them.
pub record IsPreparedFor (old : Option Node) (new : Node) (v : Shown) (x : Prepared) : Type 0 where
  pub can_commit : CanCommit v x
  pub prepares : Prepares old new x
  pub hosts_are : forest_kept v.hosts ≡ forest_of (hosts old)
  pub commits : IsCommit old new

-- a commit is prepared for some trees
pub record IsPrepared (v : Shown) (x : Prepared) : Type 0 where
  pub old : Option Node
  pub new : Node
  pub is : IsPreparedFor old new v x

-- what is shown of a tree and its passive effects still is
abbrev pub KeepsShown : (before after : Shown) → Type 0
KeepsShown v w = (tree : Option Node) (passive : Passive) → Shows tree passive v → Shows tree passive w

-- A root gave up a render: the program, the current tree and what the last commit saw stay, hooks stand for what they stood for, the same is shown, and all else stays.
pub record GaveUp (v w : Rooted) : Type 0 where
  pub program : w.rendering.program ≡ v.rendering.program
  pub current : w.rendering.trees.current ≡ v.rendering.trees.current
  pub seen : w.rendering.seen ≡ v.rendering.seen
  pub keeps : KeepsHooks v.rendering w.rendering
  pub shows : KeepsShown v.shown w.shown
  pub rest : w ≡ record v { rendering = w.rendering; shown = w.shown }

-- A stretch of the machine is all that was done: the root stands for the state after it, but for a render, and its lines are written.
pub record HasBroken (p : Program) (asks : Stretch → Type 0) (v : Rooted) (log new : Written) : Type 0 where
  pub stretch : Stretch
  pub asked : asks stretch
  pub stands : StandsButForRender p stretch.after v
  pub written : new ≡ with_lines log stretch.lines
