-- What the next line of a report tells of a turn.
use Rattle.std.specs.Prelude.{◌≡◌, ℕ, ◌<◌, ◌≤◌, ◌^◌, true, false, List, [], ◌∷◌, ◌++◌, Some}
use Rattle.rx_base.specs.Values.{Text}
use Rattle.rx_lane.specs.Lanes.{Lanes}
use Rattle.rx_ast.specs.Syntax.{Program}
use Rattle.rx_step.specs.declared.step.Step.{Step}
use Rattle.rx_elem.specs.Trees.{Node}
use Rattle.rx_lines.specs.Lines.{Counts, Line, Options, committed, deferred, counts_text, line_bytes, line_text, report_bytes}
use Rattle.rx_model.specs.State.{State, Progress, end_line}
use Rattle.rx_model.specs.Stretch.{Stretch}
use Rattle.rx_model.specs.Committing.{ended}
use Rattle.rx_model.specs.Turns.{AnyRender}
use Rattle.rx_model.specs.Machine.{RunTo}
use Rattle.rx_model.specs.Laws.{IsBounded}

-- a report with counts, and without operations
abbrev pub counted : Options
counted = record { counts = true; ops = false }

-- A line says that a render with these lanes is finished, and with these counts: it is committed, or deferred.
pub data IsFinishOf (lanes : Lanes) (counts : Counts) : Line → Type 0 where
  commits : (number : ℕ) (tree : Node) → IsFinishOf lanes counts (committed number lanes counts tree)
  defers : IsFinishOf lanes counts (deferred lanes counts)

-- some bytes begin with a line
abbrev pub NextIs : Text → List ℕ → Type 0
NextIs line bytes = (rest : List ℕ) × (bytes ≡ line ++ rest)

-- what a run writes from here on, with its last line
abbrev pub bytes_from_here : Stretch → Text
bytes_from_here r = report_bytes counted (r.lines ++ end_line r.after ∷ [])

-- Where a render in progress has used so many units, no run writes next that a render with its lanes is finished with no more units.
abbrev pub NextLineDecides : Program → Type 0
NextLineDecides p =
    IsBounded p → (s : State) (g : Progress) → s.progress ≡ Some g
    → (counts : Counts) (f : Line) → IsFinishOf g.lanes counts f → counts.units ≤ g.units
    → (steps : List Step) (r : Stretch) → RunTo AnyRender p s steps r → NextIs (line_bytes counted f) (bytes_from_here r) → ⊥

-- the end of a render writes first that it is finished
abbrev pub SaysThatItIsFinished : State → Progress → Counts → Node → Type 0
SaysThatItIsFinished s g counts tree = (f : Line) × (rest : List Line) × IsFinishOf g.lanes counts f × ((ended s g counts tree).lines ≡ f ∷ rest)

-- counts that a report can show: both are below 2 ^ 64
pub record AreShown (counts : Counts) : Type 0 where
  pub units : counts.units < 2 ^ 64
  pub bodies : counts.bodies < 2 ^ 64

-- if bytes begin with two such lines, both tell the same lanes and the same counts
abbrev pub FinishesTell : Type 0
FinishesTell =
    (lanes others : Lanes) (counts more : Counts) (f h : Line) → IsFinishOf lanes counts f → IsFinishOf others more h → AreShown counts → AreShown more
    → (bytes : List ℕ) → NextIs (line_bytes counted f) bytes → NextIs (line_bytes counted h) bytes → (lanes ≡ others) × (counts ≡ more)

-- such a line is its text without counts, the text of its counts, and its end
abbrev pub CountsComeLast : Type 0
CountsComeLast =
    (lanes : Lanes) (counts : Counts) (f : Line) → IsFinishOf lanes counts f → line_bytes counted f ≡ line_text false f ++ counts_text true counts ++ 10 ∷ []
