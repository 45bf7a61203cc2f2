-- What the plain machine does, by the machine's stretches.
use Rattle.std.specs.Prelude.{◌≡◌, Option, Some, None}
use Rattle.rx_base.specs.Awaits.{Awaits}
use Rattle.rx_ast.specs.Syntax.{Program}
use Rattle.rx_elem.specs.Trees.{Node}
use Rattle.rx_meaning.specs.Fresh.{fresh, made}
use Rattle.rx_meaning.specs.Outcome.{Outcome, commit, defer}
use Rattle.rx_model.specs.Committing.{sight_of}
use Rattle.rx_model.specs.Kept.{IsSet}
use Rattle.rx_model.specs.State.{Progress, State}
use Rattle.end_laws.specs.Trimmed.{trimmed, trimmed_if}
use Rattle.rx_lines.specs.Lines.{Written}
use Rattle.rx_model.specs.Stretch.{Stretch}
use Rattle.rx_writing.specs.Written.{with_lines}
use Rattle.rx_plain.specs.Plained.{Going, Plained}
use Rattle.rx_plain.specs.Stands.{GoesOnWith, StandsFor, StandsWith}
use Rattle.rx_kept.specs.Keeping.{AreDeclared, KeepsResources}

-- a stretch of the machine is done: what it stands for is the state after it, and its lines are written
pub record HasDone (p : Program) (r : Stretch) (v : Plained) (log new : Written) : Type 0 where
  pub stands : StandsFor p r.after v
  pub written : new ≡ with_lines log r.lines

-- what becomes of a render whose tree is this: it is deferred for these resources, or else committed
abbrev pub outcome_as : Node → Option Awaits → Outcome
outcome_as n None = commit n
outcome_as n (Some waits) = defer waits

-- it stands for some state whose render in progress gives this tree, but for the vacant places at the ends of its lists
pub record IsAtEnd (p : Program) (tree : Node) (v : Plained) : Type 0 where
  pub state : State
  pub progress : Progress
  pub gives : Node
  pub stands : StandsWith p state (Some progress) v
  pub rendered : fresh (sight_of p state progress) state.tree ≡ made gives
  pub is : trimmed tree ≡ trimmed gives

-- what the machine knows of the time since a render of this began: what is kept of the resources, and what the render sees of them
pub record KnowsSince (p : Program) (s : State) (g : Progress) (x : Going) (v : Plained) : Type 0 where
  pub resources : KeepsResources p s.journal s.linked v.resources
  pub declared : AreDeclared p s.journal
  pub goes_on : GoesOnWith p s g x

-- it knows so of some render
pub record KnowsSinceSome (p : Program) (x : Going) (v : Plained) : Type 0 where
  pub state : State
  pub progress : Progress
  pub knows : KnowsSince p state progress x v

-- A commit is at hand: the machine has the state's tree and its number of commits, the render has the lanes of the state's, and the new tree is this one, without the vacant places at the ends of its lists.
pub record IsCommitting (s : State) (g : Progress) (tree : Node) (next : Node) (x : Going) (v : Plained) : Type 0 where
  pub old : v.tree ≡ trimmed_if s.tree
  pub commits : v.commits ≡ s.commits
  pub lanes : x.lanes ≡ g.lanes
  pub lanes_are_set : IsSet g.lanes
  pub new : next ≡ trimmed tree

-- it stands for some state whose render in progress gives a tree of which this is all but the vacant places at the ends of its lists
pub record IsAtTrimmedEnd (p : Program) (tree : Node) (v : Plained) : Type 0 where
  pub state : State
  pub progress : Progress
  pub gives : Node
  pub stands : StandsWith p state (Some progress) v
  pub rendered : fresh (sight_of p state progress) state.tree ≡ made gives
  pub is : tree ≡ trimmed gives
