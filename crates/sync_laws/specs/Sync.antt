-- Scripts in which each dispatch is Sync and flushed at once, steady runs, and what is said of their ends.
use Rattle.std.specs.Prelude.{◌≡◌, ℕ, List, [], ◌∷◌, ◌++◌, Option, Some, None, IfSome, IsTrue, filter, filter_map, flat_map, length, slice_get}
use Rattle.std.specs.List.{AllByRecursion}
use Rattle.rx_base.specs.Values.{Text}
use Rattle.rx_ast.specs.Syntax.{Program}
use Rattle.rx_step.specs.declared.step.LaneWord.TheVariants as word
use Rattle.rx_step.specs.declared.step.StartWord.TheVariants as start
use Rattle.rx_step.specs.declared.step.Dispatch.{Dispatch}
use Rattle.rx_step.specs.declared.step.Dispatch.TheVariants as dispatch
use Rattle.rx_step.specs.declared.step.Step.{Step}
use Rattle.rx_step.specs.declared.step.Step.TheVariants as step
use Rattle.rx_elem.specs.Trees.{Node, is_caught}
use Rattle.rx_elem.specs.Spots.{mounted, numbers_of, hidden_count, at_root, spot_mark, spots}
use Rattle.rx_forest.specs.Hosts.{hosts}
use Rattle.rx_lines.specs.Lines.{Line, Options, committed, operated, caught, logged, deferred, no_instance, already, state_head, state_of, tree_head, tree_host, end_quiet, end_pending, tree_lines, report_bytes}
use Rattle.rx_model.specs.State.{State, is_quiet, state_lines, end_line}
use Rattle.rx_model.specs.Turns.{OfRender}
use Rattle.rx_model.specs.Machine.{Run, Reports}
use Rattle.rx_model.specs.Laws.{IsBounded}
use Rattle.replay_laws.specs.Attributes.{AttributesApart}

-- a dispatch with the lane Sync
abbrev pub in_sync : Dispatch → Dispatch
in_sync (dispatch.Set w path name x) = dispatch.Set word.Sync path name x
in_sync (dispatch.Call w path name f x) = dispatch.Call word.Sync path name f x
in_sync (dispatch.Send w path name x) = dispatch.Send word.Sync path name x
in_sync (dispatch.Start w path name) = dispatch.Start start.Sync path name
in_sync (dispatch.Refresh w name) = dispatch.Refresh word.Sync name

-- what stands for a step if each dispatch is Sync and flushed at once
abbrev pub step_in_sync : Step → List Step
step_in_sync (step.Dispatch d) = step.Dispatch (in_sync d) ∷ step.Flush ∷ []
step_in_sync (step.Resolve name x) = step.Resolve name x ∷ []
step_in_sync (step.Tick n) = step.Tick n ∷ []
step_in_sync (step.Work n) = step.Work n ∷ []
step_in_sync step.Flush = step.Flush ∷ []
step_in_sync step.FlushSync = step.FlushSync ∷ []
step_in_sync step.Passive = step.Passive ∷ []
step_in_sync step.Event = step.Event ∷ []
step_in_sync step.State = step.State ∷ []
step_in_sync step.Tree = step.Tree ∷ []

-- the script with the lane Sync in each dispatch, and a flush after it
abbrev pub all_in_sync : List Step → List Step
all_in_sync steps = flat_map step_in_sync steps

-- the tree that a line commits, if it is the line of a commit
abbrev pub tree_of : Line → Option Node
tree_of (committed k lanes counts tree) = Some tree
tree_of (operated o) = None
tree_of (caught x) = None
tree_of (logged l) = None
tree_of (deferred lanes counts) = None
tree_of (no_instance path) = None
tree_of (already name x) = None
tree_of state_head = None
tree_of (state_of m name hooks hidden) = None
tree_of tree_head = None
tree_of (tree_host level h) = None
tree_of end_quiet = None
tree_of (end_pending lanes n) = None

-- the trees that are committed, in their order
abbrev pub trees_of : List Line → List Node
trees_of lines = filter_map tree_of lines

-- how many error boundaries of a tree have caught a value
abbrev pub caught_count : Node → ℕ
caught_count tree = length (filter (λ x. is_caught (spot_mark x)) (spots at_root tree))

-- a tree has the instances of the first one in the same tree order, no boundary of it is hidden, and no error boundary of it has caught a value
pub record IsLike (first tree : Node) : Type 0 where
  pub instances : numbers_of (mounted (Some tree)) ≡ numbers_of (mounted (Some first))
  pub none_hidden : hidden_count (Some tree) ≡ 0
  pub none_caught : caught_count tree ≡ 0

-- a script begins with a flush
abbrev pub BeginsWithFlush : List Step → Type 0
BeginsWithFlush steps = slice_get steps 0 ≡ Some step.Flush

-- A run is steady: its first step is a flush, and each tree that it commits is like the first one.
pub record IsSteady (steps : List Step) (lines : List Line) : Type 0 where
  pub begins : BeginsWithFlush steps
  pub alike : IfSome (slice_get (trees_of lines) 0) (λ first. AllByRecursion (IsLike first) (trees_of lines))

-- two states show the same: their trees of hosts have the same text, and the same lines show their hooks
pub record ShowTheSame (p : Program) (s t : State) : Type 0 where
  pub trees : (o : Options) → report_bytes o (tree_lines (hosts s.tree)) ≡ report_bytes o (tree_lines (hosts t.tree))
  pub states : state_lines p s ≡ state_lines p t

-- what a step is beside its lane and its time: a dispatch, which stands here with the lane Sync, or a resolution
abbrev pub told_by : Step → List Step
told_by (step.Dispatch d) = step.Dispatch (in_sync d) ∷ []
told_by (step.Resolve name x) = step.Resolve name x ∷ []
told_by (step.Tick n) = []
told_by (step.Work n) = []
told_by step.Flush = []
told_by step.FlushSync = []
told_by step.Passive = []
told_by step.Event = []
told_by step.State = []
told_by step.Tree = []

-- the dispatches of a script, whatever their lanes, and its resolutions, in their order
abbrev pub told : List Step → List Step
told steps = flat_map told_by steps

-- If two scripts have the same dispatches, whatever their lanes, and the same resolutions, and a run of each is steady and ends quiet, their ends show the same, whatever is asked of the renders of the first run and of the second.
abbrev pub LanesLaw : (First Second : OfRender) → Program → Type 0
LanesLaw First Second p =
    IsBounded p → AttributesApart p
    → (steps rivals : List Step) → told rivals ≡ told steps → (lines others : List Line) (bodies more : ℕ)
    → (a : Run First p steps lines bodies) (b : Run Second p rivals others more)
    → IsSteady steps lines → IsSteady rivals others
    → IsTrue (is_quiet a.whole.after) → IsTrue (is_quiet b.whole.after)
    → ShowTheSame p a.whole.after b.whole.after

-- So if a run of a script and a run of the same script in Sync are steady and end quiet, their ends show the same
abbrev pub SyncLaw : (First Second : OfRender) → Program → Type 0
SyncLaw First Second p =
    IsBounded p → AttributesApart p
    → (steps : List Step) (lines others : List Line) (bodies more : ℕ)
    → (a : Run First p steps lines bodies) (b : Run Second p (all_in_sync steps) others more)
    → IsSteady steps lines → IsSteady (all_in_sync steps) others
    → IsTrue (is_quiet a.whole.after) → IsTrue (is_quiet b.whole.after)
    → ShowTheSame p a.whole.after b.whole.after

-- Reports

-- a script that closes with the steps that print the tree of hosts and all hooks
abbrev pub closed : List Step → List Step
closed steps = steps ++ step.Tree ∷ step.State ∷ []

-- what a report of such a script closes with
abbrev pub closing_lines : Program → State → List Line
closing_lines p s = (tree_lines (hosts s.tree) ++ state_lines p s) ++ end_line s ∷ []

-- a text ends with another one
abbrev pub EndsWith : Text → Text → Type 0
EndsWith t last = (first : Text) × (t ≡ first ++ last)

-- So if the script closes with these steps, a report of the one run and one of the other close with the same bytes, whatever else each of them shows.
abbrev pub ReportsCloseAlike : (First Second : OfRender) → Program → Type 0
ReportsCloseAlike First Second p =
    IsBounded p → AttributesApart p
    → (steps : List Step) (o u : Options) (bytes others : Text) (bodies more : ℕ)
    → (a : Reports First p (closed steps) o bytes bodies) (b : Reports Second p (all_in_sync (closed steps)) u others more)
    → IsSteady (closed steps) a.lines → IsSteady (all_in_sync (closed steps)) b.lines
    → IsTrue (is_quiet a.run.whole.after) → IsTrue (is_quiet b.run.whole.after)
    → EndsWith bytes (report_bytes o (closing_lines p a.run.whole.after)) × EndsWith others (report_bytes o (closing_lines p a.run.whole.after))
