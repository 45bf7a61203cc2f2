-- What a page shows of a run, step by step.
use Rattle.std.specs.Prelude.{◌≡◌, Bool, true, false, ◌&&◌, List, [], ◌∷◌, ◌++◌, Option, is_some, option_map}
use Rattle.rx_base.specs.Values.{Text}
use Rattle.rx_lane.specs.declared.lane.Lane.{Lane}
use Rattle.rx_lane.specs.Lanes.{has, is_transition}
use Rattle.rx_ast.specs.Syntax.{Program}
use Rattle.rx_step.specs.declared.step.Step.{Step}
use Rattle.rx_step.specs.declared.step.Step.TheVariants as step
use Rattle.rx_elem.specs.Spots.{hidden_count}
use Rattle.rx_forest.specs.Hosts.{hosts}
use Rattle.rx_lines.specs.Lines.{Line, Options, report_bytes, tree_lines}
use Rattle.rx_sched.specs.Deadlines.{is_expired}
use Rattle.rx_model.specs.State.{State, Progress, state_lines}
use Rattle.rx_model.specs.Stretch.{Stretch}
use Rattle.rx_model.specs.Turns.{choice_of}
use Rattle.rx_model.specs.Machine.{StepTo}
use Rattle.rx_root.specs.Paying.{Pays}
use Rattle.run_page.specs.declared.view.Facts.{Facts}
use Rattle.run_page.specs.declared.view.Rendering.{Rendering}
use Rattle.run_page.specs.Views.{View}
use Rattle.fiber_view.specs.StepTexts.{step_text}

-- the lines of a page have counts, and the operations on hosts
abbrev pub shown_options : Options
shown_options = record { counts = true; ops = true }

-- a render in progress with its lanes, its units and its bodies
abbrev pub rendering_of : Option Progress → Option Rendering
rendering_of progress = option_map (λ g. record { lanes = g.lanes; units = g.units; bodies = g.bodies }) progress

-- The facts are those of a state: its pending and suspended lanes, the transition lanes that are expired, the render in progress, what the next turn does, how many boundaries are hidden, and the clock.
pub record AreFacts (s : State) (f : Facts) : Type 0 where
  pub pending : f.pending ≡ s.schedule.pending
  pub suspended : f.suspended ≡ s.schedule.suspended
  pub expired : (l : Lane) → has f.expired l ≡ (is_transition l && is_expired s.schedule.deadlines s.now l)
  pub rendering : f.rendering ≡ rendering_of s.progress
  pub next : f.next ≡ choice_of s
  pub hidden : f.hidden ≡ hidden_count s.tree
  pub time : f.time ≡ s.now

-- A view shows a state, behind a title and the text that led to it: the tree of hosts and the hooks as a report with these options has them, and the facts.
pub record ShowsState (p : Program) (o : Options) (title lines : Text) (yields : Bool) (s : State) (v : View) : Type 0 where
  pub title_is : v.title ≡ title
  pub lines_are : v.lines ≡ lines
  pub yields_is : v.yields ≡ yields
  pub tree_is : v.tree ≡ report_bytes o (tree_lines (hosts s.tree))
  pub hooks_are : v.hooks ≡ report_bytes o (state_lines p s)
  pub facts : AreFacts s v.facts

-- it shows these lines, as the report has them
abbrev pub Shows : Program → Options → (title : Text) → List Line → (yields : Bool) → State → View → Type 0
Shows p o title lines yields s v = ShowsState p o title (report_bytes o lines) yields s v

-- a turn yields in a step: it is `work`, and leaves a render in progress
abbrev pub yields_in : Step → (after : State) → Bool
yields_in (step.Work n) after = is_some after.progress
yields_in (step.Dispatch d) after = false
yields_in (step.Resolve name x) after = false
yields_in (step.Tick n) after = false
yields_in step.Flush after = false
yields_in step.FlushSync after = false
yields_in step.Passive after = false
yields_in step.Event after = false
yields_in step.State after = false
yields_in step.Tree after = false

-- a view shows what a step did, and the state after it
abbrev pub ShowsStep : Program → Options → Step → Stretch → View → Type 0
ShowsStep p o x taken v = Shows p o (step_text x) taken.lines (yields_in x taken.after) taken.after v

-- The views of these steps, taken one after another from a state, and the state after them: each shows what its step did and the state after it.
pub data AreShown (p : Program) (o : Options) (s : State) : List Step → List View → State → Type 0 where
  none : AreShown p o s [] [] s
  one_more : (before : List Step) (views : List View) (at : State) (x : Step) (taken : Stretch) (v : View)
      → AreShown p o s before views at → StepTo Pays p at x taken → ShowsStep p o x taken v
      → AreShown p o s (before ++ x ∷ []) (views ++ v ∷ []) taken.after
