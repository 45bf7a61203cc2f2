-- Which render of the machine is in progress.
use Rattle.std.specs.Prelude.{◌≡◌, ℕ, ◌≤◌, ◌++◌, Bool, true, List, [], Option, Some, IfSome, length, slice_get}
use Rattle.rx_base.specs.declared.cut.Cut.{Cut}
use Rattle.rx_lane.specs.Lanes.{Lanes}
use Rattle.rx_ast.specs.Syntax.{Program}
use Rattle.rx_check.specs.Checks.{unknowns}
use Rattle.rx_elem.specs.Trees.{Node, element_of}
use Rattle.rx_elem.specs.Spots.{Mounted, mounted}
use Rattle.rx_hooks.specs.declared.hook.Hook.{Hook}
use Rattle.rx_queue.specs.Journal.{Journal, Posted, Resolution, cut_now}
use Rattle.rx_meaning.specs.Fresh.{Sight, default_contexts, root_element}
use Rattle.rx_meaning.specs.Cursor.{Cursor}
use Rattle.rx_meaning.specs.Again.{AllOpen}
use Rattle.rx_meaning.specs.Settled.{DoneBefore, HasOwnNumbers, IfReadsHold, IfSettled, known_by, version_done}
use Rattle.rx_meaning.specs.Touched.{may_throw_anew}
use Rattle.rx_model.specs.State.{State, Progress}
use Rattle.rx_model.specs.Committing.{sight_of, starting}
use Rattle.rx_model.specs.HooksOf.{KeepsAllHooks}
use Rattle.rx_model.specs.Laws.{IsBounded}
use Rattle.rx_fiber.specs.Reading.{IsTreeOf}
use Rattle.rx_fiber.specs.Subtrees.{IsGathered}
use Rattle.rx_hook_store.specs.Store.{Kept, kept_hooks}
use Rattle.rx_hook_store.specs.Gives.{GivesValues}
use Rattle.rx_hook_store.specs.Working.{AreOnlyWorking}
use Rattle.rx_ways.specs.Leads.{leads}
use Rattle.rx_ways.specs.Ways.{CoversIf, is_way}
use Rattle.render_laws.specs.InProgress.{InProgress}
use Rattle.render_laws.specs.OldNodes.{CursorHas}
use Rattle.render_laws.specs.SameSight.{AllAfter}
use Rattle.draw_laws.specs.Cursors.{CursorDrawn}
use Rattle.room_laws.specs.Reached.{IsReached}
use Rattle.commit_laws.specs.HiddenWaits.{IfNumbered}
use Rattle.commit_laws.specs.Idle.{IsIdleMark}
use Rattle.commit_laws.specs.WaitsAgain.{IfWaitsAgain}
use Rattle.cost_laws.specs.Left.{Costs, Flags}
use Rattle.cost_laws.specs.Undue.{IsUndue}
use Rattle.begin_laws.specs.Mounting.{HasInstances}
use Rattle.rx_render.specs.Mounting.{GoesWith}
use Rattle.rx_render.specs.GivenContexts.{CursorGiven}
use Rattle.rx_resources.specs.Seen.{Resources}
use Rattle.rx_kept.specs.Seeing.{AsksForDeclared, resources_by}
use Rattle.rx_render.specs.Rendering.{Rendering, IfLeft, ComesTo}
use Rattle.rx_render.specs.Gathers.{IsGathering}
use Rattle.rx_render.specs.Costing.{HasFlags}

-- a rendering sees what a render sees
pub record Sees (v : Rendering) (s : Sight) : Type 0 where
  pub program : s.program ≡ v.program
  pub resources : v.resources ≡ resources_by s
  pub declared : AsksForDeclared s
  pub lanes : s.lanes ≡ v.lanes
  pub cut : s.cut ≡ v.cut
  pub throws : v.throws ≡ may_throw_anew s

-- hooks give a render the values of each instance of this tree
abbrev pub GivesAll : Sight → Option Node → (kept : ℕ → Option (List Hook)) → Type 0
GivesAll s tree kept = (k : ℕ) (m : Mounted) → slice_get (mounted tree) k ≡ Some m → GivesValues s kept m.number m.initials

-- A rendering stands where the render that sees this over this tree stands after so many units.
pub record HasCome (s : Sight) (tree : Option Node) (v : Rendering) : Type 0 where
  pub cursor : Cursor
  pub comes : ComesTo v.trees v.contexts v.at cursor
  pub goes : InProgress s tree v.units v.bodies cursor
  -- what is still to come fits the program, has the values that the providers around it give, and has the instances of the tree alone
  pub drawn : CursorDrawn s.program cursor
  pub given : CursorGiven (default_contexts s.program) cursor
  pub olds : CursorHas (HasInstances tree) cursor
  -- and each old node is settled and covered if the tree is
  pub rests : CursorHas (GoesWith tree) cursor
  -- a render over the tree comes there
  pub reached : IsReached s.program tree cursor

-- What a rendering has cost so far at a cursor: with the bodies that are left to it, those of the whole render. No update is due if the tree stands on no way.
pub record HasCosts (s : Sight) (tree : Option Node) (v : Rendering) (c : Cursor) : Type 0 where
  pub flags : Flags
  pub are : HasFlags v.trees v.at flags
  pub counted : Costs s tree v.bodies flags c
  pub undue : CoversIf (is_way v.ways) (IsUndue s) tree

-- a cut has nothing before it that has yet to come
pub record IsPast (cut : Cut) (j : Journal) : Type 0 where
  pub updates : cut.updates ≤ length j.updates
  pub resolutions : cut.resolutions ≤ length j.resolutions

-- The machine's state and its render in progress, by lanes and cut, are those of a rendering: it sees what the render sees, over the committed tree and the hooks of its instances, and stands where the render stands after so many units.
pub record Renders (p : Program) (st : State) (g : Progress) (v : Rendering) : Type 0 where
  pub program : v.program ≡ p
  pub resources : v.resources ≡ resources_by (sight_of p st g)
  pub declared : AsksForDeclared (sight_of p st g)
  pub lanes : v.lanes ≡ g.lanes
  pub cut : v.cut ≡ g.cut
  pub seen : v.seen ≡ st.seen
  pub throws : v.throws ≡ may_throw_anew (sight_of p st g)
  pub current : IsTreeOf st.tree v.trees.current
  pub keeps : KeepsAllHooks p st (kept_hooks v.hooks)
  -- what is done lies before the cut, and the cut before what has yet to come
  pub done : DoneBefore g.cut st.journal.updates
  pub past : IsPast g.cut st.journal
  -- the committed tree has what bodies give for what is done
  pub settled : IfSettled p (known_by (sight_of p st g)) st.tree
  -- over the root's element
  pub rooted : IfSome st.tree (λ x. element_of x ≡ root_element p)
  -- its hidden boundaries wait again
  pub waits : IfWaitsAgain (sight_of p st g) (default_contexts p) st.tree
  -- and what is shown of it read what the contexts give, and the versions that the last commit showed
  pub reads : IfReadsHold (version_done st.journal.updates) (default_contexts p) st.tree
  -- what stands on no way is idle
  pub covers : CoversIf (is_way v.ways) (IsIdleMark (sight_of p st g)) st.tree
  pub come : HasCome (sight_of p st g) st.tree v
  pub costs : HasCosts (sight_of p st g) st.tree v come.cursor

-- a render is under way: what is done lies before its cut; what it is over is the current tree, which is settled, whose hidden boundaries wait again and whose reads hold, which is idle if it stands on no way, and hooks give it the values of the instances there
pub record IsUnderWay (v : Rendering) : Type 0 where
  pub sight : Sight
  pub tree : Option Node
  pub sees : Sees v sight
  pub gives : GivesAll sight tree (kept_hooks v.hooks)
  pub current : IsTreeOf tree v.trees.current
  pub done : DoneBefore sight.cut sight.journal.updates
  pub settled : IfSettled sight.program (known_by sight) tree
  pub waits : IfWaitsAgain sight (default_contexts sight.program) tree
  pub reads : IfReadsHold (version_done sight.journal.updates) (default_contexts sight.program) tree
  pub covers : CoversIf (is_way v.ways) (IsIdleMark sight) tree
  pub come : HasCome sight tree v

-- what holds of each rendering: its program is accepted, and if a unit is left a render is under way
pub record IsRendering (v : Rendering) : Type 0 where
  pub known : unknowns v.program ≡ []
  pub bounded : IsBounded v.program
  pub under_way : IfLeft v.at (IsUnderWay v)
  -- what is at or below its fibers is gathered on those of the current tree, and on those of the draft that are done
  pub gathered : IsGathered v.trees.current
  pub gathering : IsGathering v.trees v.at

-- what a render that starts now needs: the current tree is the committed one, which is settled, has the root's element at its root, hidden boundaries that wait again and reads that hold, and its instances have numbers of their own; the hooks are those of its instances, the cut has all before it, as many resolutions were seen by the last commit, and the resources are what it sees of them
pub record IsStartOf (st : State) (lanes : Lanes) (cut : Cut) (resources : Resources) (v : Rendering) : Type 0 where
  pub current : IsTreeOf st.tree v.trees.current
  pub keeps : KeepsAllHooks v.program st (kept_hooks v.hooks)
  pub done : DoneBefore cut st.journal.updates
  pub cut_is : cut ≡ cut_now st.journal
  pub seen : v.seen ≡ st.seen
  pub resources_are : resources ≡ resources_by (sight_of v.program st (starting st lanes))
  pub declared : AsksForDeclared (sight_of v.program st (starting st lanes))
  pub settled : IfSettled v.program (known_by (sight_of v.program st (starting st lanes))) st.tree
  pub rooted : IfSome st.tree (λ x. element_of x ≡ root_element v.program)
  pub waits : IfWaitsAgain (sight_of v.program st (starting st lanes)) (default_contexts v.program) st.tree
  pub reads : IfReadsHold (version_done st.journal.updates) (default_contexts v.program) st.tree
  pub numbered : IfNumbered st.tree
  pub apart : (next : ℕ) × HasOwnNumbers next st.tree

-- A cause stands at the instance with this number or below it, if these instances alone stir, in whose hooks a render for these lanes at this cut has work; or a boundary there is hidden.
pub record LeadsToWork (lanes : Lanes) (cut : Cut) (kept : ℕ → Option (List Hook)) (n : ℕ) (tree : Option Node) : Type 0 where
  pub these : ℕ → Bool
  pub work : AreOnlyWorking lanes cut kept these
  pub leads_there : leads these n tree ≡ true

-- a render can start
pub record CanStart (lanes : Lanes) (cut : Cut) (resources : Resources) (v : Rendering) : Type 0 where
  pub state : State
  pub is : IsStartOf state lanes cut resources v

-- The machine's state is one that follows within a render: the same tree, as many resolutions seen by the last commit, and a journal with more updates, after its cut, and more resolutions.
pub record IsLater (g : Progress) (st later : State) : Type 0 where
  pub tree : later.tree ≡ st.tree
  pub seen : later.seen ≡ st.seen
  pub new : List Posted
  pub more : List Resolution
  pub updates : later.journal.updates ≡ st.journal.updates ++ new
  pub resolutions : later.journal.resolutions ≡ st.journal.resolutions ++ more
  pub after : AllAfter g.cut.updates new
  pub opened : AllOpen new

-- the same rendering, with hooks that are kept since
abbrev pub with_hooks : Rendering → Kept → Rendering
with_hooks v hooks = record v { hooks = hooks }
