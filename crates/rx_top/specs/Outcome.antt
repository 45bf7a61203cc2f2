-- What the top call answers and writes, for the words and the input.
use Rattle.std.specs.Prelude.{ℕ, ◌≡◌, ◌≢◌, ◌+◌, ◌<◌, ◌≤◌, ◌⊎◌, List, [], ◌∷◌, ◌++◌, length, Bool, true, false, codes, Option, Some, drop}
use Rattle.std.specs.Io.KnownBytes.{Appends, Consumes, IsAtEnd}
use Rattle.rx_base.specs.Values.{Text}
use Rattle.rx_io.specs.Causes.{Rose}
use Rattle.rx_io.specs.Whole.{AppendsPart, IsPartOf}
use Rattle.rx_ast.specs.Syntax.{Program}
use Rattle.rx_rules.specs.Bounds.{node_bound, depth_bound}
use Rattle.rx_step.specs.declared.step.Step.{Step}
use Rattle.rx_accept.specs.Lines.{then_number}
use Rattle.rx_script.specs.Input.{Input, front_of, input_of, report_of}
use Rattle.rx_accept.specs.Judgements.{AreJudged, IsJudged, Judgement, accepted, program_refused, script_refused}
use Rattle.rx_elem.specs.Spots.{node_count}
use Rattle.rx_forest.specs.Hosts.{hosts}
use Rattle.rx_lines.specs.Lines.{Options, tree_lines, report_bytes}
use Rattle.rx_model.specs.State.{State, opening}
use Rattle.rx_model.specs.Stretch.{Stretch}
use Rattle.rx_model.specs.Machine.{RunTo}
use Rattle.rx_root.specs.Paying.{Pays}
use Rattle.rx_gen.specs.Generated.{summary_text}
use Rattle.rx_gen.specs.Meant.{generated_input}
use Rattle.rx_words.specs.Words.{is_valid, reads_input, task_of}
use Rattle.rx_words.specs.declared.task.Task.{Task}
use Rattle.rx_words.specs.declared.task.Task.TheVariants.{Read, Gen}
use Rattle.rx_words.specs.declared.task.Reading.{Reading}
use Rattle.rx_words.specs.declared.task.Reading.TheVariants.{Run, Check, Verify}
use Rattle.rx_verify.specs.declared.verdict.Verdict.{Verdict}
use Rattle.rx_verify.specs.declared.verdict.Verdict.TheVariants as verdict
use Rattle.rx_verify.specs.Verdicts.{IsVerdict}
use Rattle.rx_top.specs.declared.status.Status.{Status}
use Rattle.rx_top.specs.declared.status.Status.TheVariants.{Done, No, Usage, ReadFault, WriteFault, TooLong, ProgramRefused, ScriptRefused, OutOfMemory}
use Rattle.rx_top.specs.Reports.{IsReport, IsLostReport, IsShortReport, BreaksOffAt}

-- the line for words that aren't valid
abbrev pub usage_line : Text
usage_line = codes "usage: fiber_run run [--counts] [--ops] | check | gen N | verify\n"

-- the line for an input that is too long
abbrev pub too_long_line : Text
too_long_line = codes "input over 8388608 bytes\n"

-- the line for what is accepted: the most nodes and levels that a tree of the program has, and how many steps there are
abbrev pub accepted_line : (nodes levels steps : ℕ) → Text
accepted_line nodes levels steps =
    codes "accepted nodes" ++ then_number nodes ++ codes " depth" ++ then_number levels ++ codes " steps" ++ then_number steps ++ 10 ∷ []

-- the line for a report, by what it is judged to be
abbrev pub verdict_line : Verdict → Text
verdict_line verdict.Yes = codes "yes\n"
verdict_line (verdict.No line) = codes "no line" ++ then_number line ++ 10 ∷ []

-- the most bytes that an input has
abbrev pub limit : ℕ
limit = 8388608

-- What is read

-- the program and the script that an input holds
abbrev pub parts_of : Reading → List ℕ → Input
parts_of (Run counts ops) input = input_of input
parts_of Check input = input_of input
parts_of Verify input = front_of input

-- the report that it holds behind them, which is read to judge it alone
abbrev pub report_in : Reading → List ℕ → List ℕ
report_in (Run counts ops) input = []
report_in Check input = []
report_in Verify input = report_of input

-- an input that is read is this
abbrev pub IsJudgedFor : Reading → List ℕ → Judgement → Type 0
IsJudgedFor reading input j = AreJudged (parts_of reading input) j

-- What is due

-- the status for a report, by what it is judged to be
abbrev pub verdict_status : Verdict → Status
verdict_status verdict.Yes = Done
verdict_status (verdict.No line) = No

-- The status of the work on a program that is accepted, the steps of its script and a report: it is done, or the report is judged not to be that of a run.
abbrev pub IsWorkStatus : Reading → Program → List Step → (report : List ℕ) → Status → Type 0
IsWorkStatus (Run counts ops) p steps report due = due ≡ Done
IsWorkStatus Check p steps report due = due ≡ Done
IsWorkStatus Verify p steps report due = (v : Verdict) × IsVerdict p steps report v × (due ≡ verdict_status v)

-- the status that is due for an input that isn't too long, by what it is judged to be and the report behind
abbrev pub IsStatusOf : Reading → (report : List ℕ) → Judgement → Status → Type 0
IsStatusOf reading report (accepted p steps) due = IsWorkStatus reading p steps report due
IsStatusOf reading report (program_refused line) due = due ≡ ProgramRefused
IsStatusOf reading report (script_refused line) due = due ≡ ScriptRefused

-- The status that is due for the words and the input: words that aren't valid are refused, an input of valid words that is too long is, and one that isn't is judged; a generated run reads nothing, and is done.
pub data IsDue (words : List Text) (input : List ℕ) : Status → Type 0 where
  usage : is_valid words ≡ false → IsDue words input Usage
  too_long : reads_input words ≡ true → limit < length input → IsDue words input TooLong
  judged : (reading : Reading) (j : Judgement) (due : Status) → task_of words ≡ Some (Read reading) → length input ≤ limit → IsJudgedFor reading input j
      → IsStatusOf reading (report_in reading input) j due → IsDue words input due
  generated : (rounds : ℕ) → task_of words ≡ Some (Gen rounds) → IsDue words input Done

-- the call is cut short: by a fault of the source or the sink, or because it is out of memory
abbrev pub is_cut_short : Status → Bool
is_cut_short Done = false
is_cut_short No = false
is_cut_short Usage = false
is_cut_short ReadFault = true
is_cut_short WriteFault = true
is_cut_short TooLong = false
is_cut_short ProgramRefused = false
is_cut_short ScriptRefused = false
is_cut_short OutOfMemory = true

-- if nothing has cut the call short, it is answered with the status that is due
abbrev pub Gives : (due answer : Status) → Type 0
Gives due answer = is_cut_short answer ≡ false → answer ≡ due

-- the count of faults of the sink rose if the answer is a write fault, and stayed if it is another
pub record TellsFaults (before now : ℕ) (answer : Status) : Type 0 where
  pub rose : answer ≡ WriteFault → Rose before now
  pub kept : answer ≢ WriteFault → now ≡ before

-- What was read and written

-- a text with P was written, and so many bodies were counted
abbrev pub Writes : Option (List ℕ) → Option (List ℕ) → ℕ → ℕ → (List ℕ → ℕ → Type 0) → Type 0
Writes old new used_old used_new P = (text : List ℕ) × (bodies : ℕ) × P text bodies × Appends old new text × (used_new ≡ used_old + bodies)

-- a text with P was written
abbrev pub Tells : Option (List ℕ) → Option (List ℕ) → (List ℕ → Type 0) → Type 0
Tells old new P = (text : List ℕ) × P text × Appends old new text

-- a part of a text with P was written
abbrev pub TellsPart : Option (List ℕ) → Option (List ℕ) → (List ℕ → Type 0) → Type 0
TellsPart old new P = (text : List ℕ) × P text × AppendsPart old new text

-- what was read has P
abbrev pub Reads : Option (List ℕ) → Option (List ℕ) → (List ℕ → Type 0) → Type 0
Reads old new P = (input : List ℕ) × Consumes old new input × P input

-- the same, to the end of the source
abbrev pub ReadsAll : Option (List ℕ) → Option (List ℕ) → (List ℕ → Type 0) → Type 0
ReadsAll old new P = (input : List ℕ) × Consumes old new input × IsAtEnd new × P input

-- an input that isn't too long was read to the end of the source, it is judged to be this, and P holds of it and of the report behind
abbrev pub ReadsJudged : Reading → Option (List ℕ) → Option (List ℕ) → ((report : List ℕ) → Judgement → Type 0) → Type 0
ReadsJudged reading old new P = ReadsAll old new (λ input. (length input ≤ limit) × (j : Judgement) × IsJudgedFor reading input j × P (report_in reading input) j)

-- this line is written, and no body is evaluated
abbrev pub IsLine : Text → List ℕ → ℕ → Type 0
IsLine line text bodies = (text ≡ line) × (bodies ≡ 0)

-- a part of this line is written, and no body is evaluated
abbrev pub IsLostLine : Text → List ℕ → ℕ → Type 0
IsLostLine line part bodies = IsPartOf part line × (bodies ≡ 0)

-- The work on an input

-- What is written for a program that is accepted, the steps of its script and a report, with this status, and how many bodies are evaluated for it: `check` writes the one line of its bounds; `run` writes the report of a run of the fresh machine, each of whose renders pays; and `verify` writes the one line that says whether the report is that of a run, and counts no body.
abbrev pub IsWork : Reading → (due : Status) → Program → List Step → (report : List ℕ) → List ℕ → ℕ → Type 0
IsWork Check due p steps report text bodies = (due ≡ Done) × IsLine (accepted_line (node_bound p) (depth_bound p) (length steps)) text bodies
IsWork (Run counts ops) due p steps report text bodies = (due ≡ Done) × IsReport Pays p steps (record { counts = counts; ops = ops }) text bodies
IsWork Verify due p steps report text bodies = (v : Verdict) × IsVerdict p steps report v × (due ≡ verdict_status v) × IsLine (verdict_line v) text bodies

-- what is written for an input that is judged to be this, with a report behind, with this status, and how many bodies are evaluated for it
abbrev pub IsOutput : Reading → (due : Status) → (report : List ℕ) → Judgement → List ℕ → ℕ → Type 0
IsOutput reading due report (accepted p steps) text bodies = IsWork reading due p steps report text bodies
IsOutput reading due report (program_refused line) text bodies = (due ≡ ProgramRefused) × IsLine line text bodies
IsOutput reading due report (script_refused line) text bodies = (due ≡ ScriptRefused) × IsLine line text bodies

-- what is written of the work if the sink fails
abbrev pub IsLostWork : Reading → Program → List Step → (report : List ℕ) → List ℕ → ℕ → Type 0
IsLostWork Check p steps report part bodies = IsLostLine (accepted_line (node_bound p) (depth_bound p) (length steps)) part bodies
IsLostWork (Run counts ops) p steps report part bodies = IsLostReport p steps (record { counts = counts; ops = ops }) part bodies
IsLostWork Verify p steps report part bodies = (v : Verdict) × IsVerdict p steps report v × IsLostLine (verdict_line v) part bodies

-- what is written of the output if the sink fails
abbrev pub IsLostOutput : Reading → (report : List ℕ) → Judgement → List ℕ → ℕ → Type 0
IsLostOutput reading report (accepted p steps) part bodies = IsLostWork reading p steps report part bodies
IsLostOutput reading report (program_refused line) part bodies = IsLostLine line part bodies
IsLostOutput reading report (script_refused line) part bodies = IsLostLine line part bodies

-- nothing is written and no body is evaluated, or this holds
abbrev pub OrNothing : (List ℕ → ℕ → Type 0) → List ℕ → ℕ → Type 0
OrNothing P part bodies = IsLine [] part bodies ⊎ P part bodies

-- what is written of the work if memory runs out: nothing, before a body is evaluated; or, of `run`, a report that is cut off
abbrev pub IsShortWork : Reading → Program → List Step → List ℕ → ℕ → Type 0
IsShortWork Check p steps part bodies = IsLine [] part bodies
IsShortWork Verify p steps part bodies = IsLine [] part bodies
IsShortWork (Run counts ops) p steps part bodies = OrNothing (IsShortReport p steps (record { counts = counts; ops = ops })) part bodies

-- what is written if memory runs out, of the work on an input that is accepted
pub record IsShortOutput (reading : Reading) (input : List ℕ) (part : List ℕ) (bodies : ℕ) : Type 0 where
  pub program : Program
  pub steps : List Step
  pub judged : IsJudgedFor reading input (accepted program steps)
  pub work : IsShortWork reading program steps part bodies

-- The generated run

-- a report that shows neither counts nor operations
abbrev pub plain : Options
plain = record { counts = false; ops = false }

-- the lines of the hosts of the committed tree
abbrev pub tree_bytes : State → Text
tree_bytes s = report_bytes plain (drop 1 (tree_lines (hosts s.tree)))

-- what sums up a run that ends in this state: the updates that were accepted, the commits, the nodes of the tree, and the lines of its hosts
abbrev pub summary_of : (rounds : ℕ) → State → Text
summary_of n s = summary_text n (length s.journal.updates) s.commits (node_count s.tree) (tree_bytes s)

-- the program and the steps of a generated run
abbrev pub IsGenerated : (rounds : ℕ) → Program → List Step → Type 0
IsGenerated n program steps = IsJudged (generated_input n) (accepted program steps)

-- The text sums up a run of the fresh machine, of the generated program on the steps of its script, each of whose renders pays.
pub record IsSummary (rounds : ℕ) (text : List ℕ) (bodies : ℕ) : Type 0 where
  pub program : Program
  pub steps : List Step
  pub generated : IsGenerated rounds program steps
  pub whole : Stretch
  pub runs : RunTo Pays program opening steps whole
  pub text_is : text ≡ summary_of rounds whole.after
  pub bodies_are : bodies ≡ whole.bodies

-- what is written of a summary if the sink fails: the run is over by then
pub record IsLostSummary (rounds : ℕ) (part : List ℕ) (bodies : ℕ) : Type 0 where
  pub text : List ℕ
  pub summary : IsSummary rounds text bodies
  pub is_part : IsPartOf part text

-- Nothing is written of a summary if memory runs out within a step of the generated run, or behind the last one. What its report would be is cut off there.
pub record IsShortSummary (rounds : ℕ) (part : List ℕ) (bodies : ℕ) : Type 0 where
  pub program : Program
  pub steps : List Step
  pub generated : IsGenerated rounds program steps
  pub report : List ℕ
  pub breaks : BreaksOffAt program steps plain report bodies
  pub nothing : part ≡ []

-- Answers

-- An input was read whole, and what was written is its output with this status.
abbrev pub Answers : Reading → Status → (left_old left_new written_old written_new : Option (List ℕ)) → (used_old used_new : ℕ) → Type 0
Answers reading due left_old left_new written_old written_new used_old used_new =
    ReadsJudged reading left_old left_new (λ report j. Writes written_old written_new used_old used_new (IsOutput reading due report j))

-- A task's work was done: an input was read whole, and its output written; or a generated run was summed up.
abbrev pub Does : Task → (left_old left_new written_old written_new : Option (List ℕ)) → (used_old used_new : ℕ) → Type 0
Does (Read reading) left_old left_new written_old written_new used_old used_new = Answers reading Done left_old left_new written_old written_new used_old used_new
Does (Gen n) left_old left_new written_old written_new used_old used_new = Writes written_old written_new used_old used_new (IsSummary n)

-- What is written if the sink fails, and how many bodies are evaluated until then: a part of the line for words that aren't valid, or for an input that is too long; of the output of an input that was read whole; or of a summary.
pub data IsLost (words : List Text) (left_old left_new : Option (List ℕ)) (part : List ℕ) (bodies : ℕ) : Type 0 where
  lost_usage : is_valid words ≡ false → IsLostLine usage_line part bodies → IsLost words left_old left_new part bodies
  lost_too_long : reads_input words ≡ true → Reads left_old left_new (λ input. length input ≡ limit + 1) → IsLostLine too_long_line part bodies → IsLost words left_old left_new part bodies
  lost_output : (reading : Reading) → task_of words ≡ Some (Read reading) → ReadsJudged reading left_old left_new (λ report j. IsLostOutput reading report j part bodies) → IsLost words left_old left_new part bodies
  lost_summary : (rounds : ℕ) → task_of words ≡ Some (Gen rounds) → IsLostSummary rounds part bodies → IsLost words left_old left_new part bodies

-- What is written if memory runs out, and how many bodies are evaluated until then: nothing, before a run; or some of the output of an input that was read whole, or of a summary.
pub data IsShort (words : List Text) (left_old left_new : Option (List ℕ)) (part : List ℕ) (bodies : ℕ) : Type 0 where
  nothing : IsLine [] part bodies → IsShort words left_old left_new part bodies
  short_output : (reading : Reading) → task_of words ≡ Some (Read reading) → ReadsAll left_old left_new (λ input. (length input ≤ limit) × IsShortOutput reading input part bodies) → IsShort words left_old left_new part bodies
  short_summary : (rounds : ℕ) → task_of words ≡ Some (Gen rounds) → IsShortSummary rounds part bodies → IsShort words left_old left_new part bodies
