-- What is due for an input, and what is written for it.
use Rattle.std.proofs.Common.{◌≡◌, ◌≢◌, ◌∙◌, ℕ, ◌+◌, ◌≤◌, ◌<◌, ◌⊎◌, inl, inr, sym, ap, refl, Bool, true, false, List, [], ◌++◌, append-nil, length-append, Option, Some, None, is_some, IfSome, length, subst, arith}
use Rattle.std.specs.Io.KnownBytes.{Appends, Consumes, IsAtEnd}
use Rattle.std.proofs.KnownBytes.{Appends-nil}
use Rattle.rx_base.specs.Values.{Text}
use Rattle.rx_io.specs.Whole.{AppendsPart, IsPartOf}
use Rattle.rx_ast.specs.Syntax.{Program}
use Rattle.rx_step.specs.declared.step.Step.{Step}
use Rattle.rx_lines.specs.Lines.{Options}
use Rattle.rx_script.specs.Input.{Input, input_of}
use Rattle.rx_accept.specs.Judgements.{AreJudged, Judgement, accepted, program_refused, script_refused}
use Rattle.rx_words.specs.declared.task.Task.{Task}
use Rattle.rx_words.specs.declared.task.Task.TheVariants.{Read, Gen}
use Rattle.rx_words.specs.declared.task.Reading.{Reading}
use Rattle.rx_words.specs.declared.task.Reading.TheVariants.{Run, Check, Verify}
use Rattle.rx_words.specs.Words.{is_valid, reads, task_of}
use Rattle.rx_top.specs.declared.status.Status.{Status}
use Rattle.rx_top.specs.declared.status.Status.TheVariants.{Done, No, Usage, ReadFault, WriteFault, TooLong, ProgramRefused, ScriptRefused, OutOfMemory}
use Rattle.rx_verify.specs.declared.verdict.Verdict.{Verdict}
use Rattle.rx_verify.specs.Verdicts.{IsVerdict}
use Rattle.rx_top.specs.Running.{CountsShort}
use Rattle.rx_top.specs.Outcome.{limit, parts_of, report_in, verdict_line, verdict_status, is_cut_short, Gives, IsDue, usage, too_long, judged, generated, Writes, Tells, TellsPart, IsLine, IsLostLine, OrNothing, IsJudgedFor, IsStatusOf, IsWorkStatus, IsWork, IsOutput, IsLostWork, IsLostOutput, IsShortWork, IsShortOutput, IsLost, lost_output, IsLostSummary, IsGenerated, IsSummary, IsShort, nothing, short_output, short_summary, IsShortSummary, Answers}

-- What an input is

-- an input that is run or checked holds no report
pub no-report : (reading : Reading) → (((counts : Bool) × (ops : Bool) × (reading ≡ Run counts ops)) ⊎ (reading ≡ Check)) → (input : List ℕ) → (parts_of reading input ≡ input_of input) × (report_in reading input ≡ [])
no-report reading (inl r) input = (ap (λ t. parts_of t input) r.2, ap (λ t. report_in t input) r.2)
no-report reading (inr is) input = (ap (λ t. parts_of t input) is, ap (λ t. report_in t input) is)

-- an input that is read is this, and nothing else
abbrev pub IsAlone : Reading → List ℕ → Judgement → Type 0
IsAlone reading input j = (k : Judgement) → IsJudgedFor reading input k → k ≡ j

-- what its parts are judged to be, it is
module _ (reading : Reading) (input : List ℕ) (program : Text) (script : List ℕ) (one : program ≡ (parts_of reading input).program) (two : script ≡ (parts_of reading input).script) where
  same : ◌≡◌ {A = Input} (record { program = program; script = script }) (parts_of reading input)
  same = ap (λ (l : Text). record { program = l; script = script }) one ∙ ap (λ (l : List ℕ). record { program = (parts_of reading input).program; script = l }) two

  pub judged-read : (j : Judgement) → AreJudged (record { program = program; script = script }) j → IsJudgedFor reading input j
  judged-read j is = subst (λ (parts : Input). AreJudged parts j) same is

  pub alone-read : (j : Judgement) → ((k : Judgement) → AreJudged (record { program = program; script = script }) k → k ≡ j) → IsAlone reading input j
  alone-read j only k is = only k (subst (λ (parts : Input). AreJudged parts k) (sym same) is)

-- the status that is due for what an input alone is judged to be
pub gives-alone : (reading : Reading) (input : List ℕ) (j : Judgement) → IsAlone reading input j → (report : List ℕ) (answer : Status) → ((due : Status) → IsStatusOf reading report j due → Gives due answer)
    → (k : Judgement) (due : Status) → IsJudgedFor reading input k → IsStatusOf reading report k due → Gives due answer
gives-alone reading input j alone report answer gives k due found is = gives due (subst (λ i. IsStatusOf reading report i due) (alone k found) is)

-- an answer that is due is given
pub gives-as : (known answer : Status) → Gives known answer → (due : Status) → due ≡ known → Gives due answer
gives-as known answer gives due is = subst (λ d. Gives d answer) (sym is) gives

-- The status of the work

-- the status of the work of `run` and `check`
pub gives-run : (reading : Reading) (counts ops : Bool) → reading ≡ Run counts ops → (p : Program) (steps : List Step) (report : List ℕ) (answer : Status) → Gives Done answer
    → (due : Status) → IsWorkStatus reading p steps report due → Gives due answer
gives-run reading counts ops is p steps report answer gives due h = gives-as Done answer gives due (subst (λ r. IsWorkStatus r p steps report due) is h)

pub gives-check : (reading : Reading) → reading ≡ Check → (p : Program) (steps : List Step) (report : List ℕ) (answer : Status) → Gives Done answer
    → (due : Status) → IsWorkStatus reading p steps report due → Gives due answer
gives-check reading is p steps report answer gives due h = gives-as Done answer gives due (subst (λ r. IsWorkStatus r p steps report due) is h)

-- that of the work of `verify` is the same by the name of the task
pub gives-verify : (reading : Reading) → reading ≡ Verify → (p : Program) (steps : List Step) (report : List ℕ) (answer : Status)
    → ((due : Status) → IsWorkStatus Verify p steps report due → Gives due answer) → (due : Status) → IsWorkStatus reading p steps report due → Gives due answer
gives-verify reading is p steps report answer gives due h = gives due (subst (λ r. IsWorkStatus r p steps report due) is h)

-- a report is judged in one way
abbrev pub VerdictLaw : Type 0
VerdictLaw = (p : Program) (steps : List Step) (bytes : List ℕ) (v w : Verdict) → IsVerdict p steps bytes v → IsVerdict p steps bytes w → v ≡ w

-- so one status is due for it
pub gives-verdict : VerdictLaw → (p : Program) (steps : List Step) (report : List ℕ) (v : Verdict) → IsVerdict p steps report v → (answer : Status) → Gives (verdict_status v) answer
    → (due : Status) → IsWorkStatus Verify p steps report due → Gives due answer
gives-verdict law p steps report v found answer gives due is =
    gives-as (verdict_status v) answer gives due (is.2 ∙ ap verdict_status (law p steps report is.0 v is.1 found))

-- What is written

-- nothing was written
pub nothing-written : (P : List ℕ → ℕ → Type 0) (w : Option (List ℕ)) (used_old used : ℕ) → used ≡ used_old → Writes w w used_old used (OrNothing P)
nothing-written P w used_old used same = ([], 0, inl (refl, refl), Appends-nil w, omega (arith, same))

-- what is written, or nothing
pub or-nothing : (P : List ℕ → ℕ → Type 0) (w u : Option (List ℕ)) (used_old used : ℕ) → Writes w u used_old used P → Writes w u used_old used (OrNothing P)
or-nothing P w u used_old used wrote = (wrote.0, wrote.1, inr wrote.2, wrote.3, wrote.4)

-- a whole line
pub line-whole : (line : Text) (w u : Option (List ℕ)) (used : ℕ) → Appends w u line → Writes w u used used (IsLine line)
line-whole line w u used wrote = (line, 0, (refl, refl), wrote, omega arith)

-- a part of a line
pub line-lost : (line : Text) (w u : Option (List ℕ)) (used : ℕ) → AppendsPart w u line → Writes w u used used (IsLostLine line)
line-lost line w u used wrote = (wrote.0, 0, (wrote.1, refl), wrote.2, omega arith)

-- what `run` writes is its work, with these options
pub run-work : (Kind : Options → List ℕ → ℕ → Type 0) (Work : Reading → List ℕ → ℕ → Type 0) (counts ops : Bool) (reading : Reading) (o : Options) → reading ≡ Run counts ops → o ≡ record { counts = counts; ops = ops }
    → ((part : List ℕ) (bodies : ℕ) → Kind (record { counts = counts; ops = ops }) part bodies → Work (Run counts ops) part bodies)
    → (w u : Option (List ℕ)) (used_old used : ℕ) → Writes w u used_old used (Kind o) → Writes w u used_old used (Work reading)
run-work Kind Work counts ops reading o is shown does w u used_old used wrote =
    (wrote.0, wrote.1, subst (λ t. Work t wrote.0 wrote.1) (sym is) (does wrote.0 wrote.1 (subst (λ q. Kind q wrote.0 wrote.1) shown wrote.2)), wrote.3, wrote.4)

-- a whole line, with what holds anyway
pub line-whole-with : (A : Type 0) → A → (line : Text) (w u : Option (List ℕ)) (used : ℕ) → Appends w u line → Writes w u used used (λ text bodies. A × IsLine line text bodies)
line-whole-with A a line w u used wrote = (line, 0, (a, (refl, refl)), wrote, omega arith)

-- the work of `check`, or that of `verify`
pub other-work : (Work : Reading → List ℕ → ℕ → Type 0) (reading other : Reading) → reading ≡ other → (w u : Option (List ℕ)) (used_old used : ℕ) → Writes w u used_old used (Work other)
    → Writes w u used_old used (Work reading)
other-work Work reading other is w u used_old used wrote = (wrote.0, wrote.1, subst (λ t. Work t wrote.0 wrote.1) (sym is) wrote.2, wrote.3, wrote.4)

-- the line of a verdict
pub verdict-work : (p : Program) (steps : List Step) (report : List ℕ) (answer : Status) (w u : Option (List ℕ)) (used : ℕ)
    → Tells w u (λ text. (v : Verdict) × IsVerdict p steps report v × (answer ≡ verdict_status v) × (text ≡ verdict_line v)) → Writes w u used used (IsWork Verify answer p steps report)
verdict-work p steps report answer w u used (text, (v, found, is, line), wrote) = (text, 0, (v, found, is, (line, refl)), wrote, omega arith)

-- a part of it
pub verdict-lost : (p : Program) (steps : List Step) (report : List ℕ) (w u : Option (List ℕ)) (used : ℕ)
    → TellsPart w u (λ text. (v : Verdict) × IsVerdict p steps report v × (text ≡ verdict_line v)) → Writes w u used used (IsLostWork Verify p steps report)
verdict-lost p steps report w u used (text, (v, found, line), wrote) = (wrote.0, 0, (v, found, (subst (λ l. IsPartOf wrote.0 l) line wrote.1, refl)), wrote.2, omega arith)

-- what finds no memory in the work on an input that is accepted
pub work-short : (reading : Reading) (input : List ℕ) (p : Program) (steps : List Step) → IsJudgedFor reading input (accepted p steps) → (part : List ℕ) (bodies : ℕ) → IsShortWork reading p steps part bodies
    → OrNothing (IsShortOutput reading input) part bodies
work-short reading input p steps found part bodies work = inr (record { program = p; steps = steps; judged = found; work = work })

-- What is due

-- words that aren't valid ask for no input
reads-nothing : (t : Option Task) → is_some t ≡ false → reads t ≡ true → ⊥
reads-nothing None invalid asks = let clash : false ≡ true = asks in cc
reads-nothing (Some t) invalid asks = let clash : true ≡ false = invalid in cc

-- words that aren't valid
pub due-invalid : (words : List Text) (input : List ℕ) (answer : Status) → is_valid words ≡ false → Gives Usage answer → (due : Status) → IsDue words input due → Gives due answer
due-invalid words input answer invalid gives _ (usage h) = gives
due-invalid words input answer invalid gives _ (too_long asks h) = absurd (reads-nothing (task_of words) invalid asks)
due-invalid words input answer invalid gives _ (judged reading j due task within h is) = let clash : true ≡ false = rw task at invalid in cc
due-invalid words input answer invalid gives _ (generated n task) = let clash : true ≡ false = rw task at invalid in cc

-- the status that is due for an input that is read is given
abbrev pub GivesRead : Reading → List ℕ → (answer : Status) → Type 0
GivesRead reading input answer = (j : Judgement) (due : Status) → IsJudgedFor reading input j → IsStatusOf reading (report_in reading input) j due → Gives due answer

-- an input that is read, and isn't too long
pub due-reading : (words : List Text) (reading : Reading) (input : List ℕ) (answer : Status) → task_of words ≡ Some (Read reading) → length input ≤ limit
    → GivesRead reading input answer → (due : Status) → IsDue words input due → Gives due answer
due-reading words reading input answer is within gives _ (usage h) = let clash : true ≡ false = rw is at h in cc
due-reading words reading input answer is within gives _ (too_long asks h) = absurd (omega (arith, within, h))
due-reading words reading input answer is within gives _ (judged r j due task few h now) =
    let both : Some (Read r) ≡ Some (Read reading) = sym task ∙ is in
    let same : r ≡ reading = cc in
    gives j due (subst (λ t. IsJudgedFor t input j) same h) (subst (λ t. IsStatusOf t (report_in t input) j due) same now)
due-reading words reading input answer is within gives _ (generated n task) = let clash : Some (Read reading) ≡ Some (Gen n) = sym is ∙ task in cc

-- an input that is too long
pub due-long : (words : List Text) (reading : Reading) (input : List ℕ) (answer : Status) → task_of words ≡ Some (Read reading) → limit < length input → Gives TooLong answer
    → (due : Status) → IsDue words input due → Gives due answer
due-long words reading input answer is long gives _ (usage h) = let clash : true ≡ false = rw is at h in cc
due-long words reading input answer is long gives _ (too_long asks h) = gives
due-long words reading input answer is long gives _ (judged r j due task few h now) = absurd (omega (arith, long, few))
due-long words reading input answer is long gives _ (generated n task) = let clash : Some (Read reading) ≡ Some (Gen n) = sym is ∙ task in cc

-- a generated run
pub due-generated : (words : List Text) (n : ℕ) (input : List ℕ) (answer : Status) → task_of words ≡ Some (Gen n) → Gives Done answer → (due : Status) → IsDue words input due → Gives due answer
due-generated words n input answer is gives _ (usage h) = let clash : true ≡ false = rw is at h in cc
due-generated words n input answer is gives _ (too_long asks h) = let clash : false ≡ true = rw is at asks in cc
due-generated words n input answer is gives _ (judged r j due task few h now) = let clash : Some (Gen n) ≡ Some (Read r) = sym is ∙ task in cc
due-generated words n input answer is gives _ (generated m task) = gives

-- an answer that was cut short is free
pub due-free : (words : List Text) (input : List ℕ) (answer : Status) → is_cut_short answer ≡ true → (due : Status) → IsDue words input due → Gives due answer
due-free words input answer cut due d whole = let clash : true ≡ false = sym cut ∙ whole in cc

-- the status that is due is the answer if the source tells its bytes
abbrev pub IsExact : List Text → Option (List ℕ) → Status → Type 0
IsExact words old answer = IfSome old (λ all. (due : Status) → IsDue words all due → Gives due answer)

-- whatever the source tells
pub exact-by : (words : List Text) (old : Option (List ℕ)) (answer : Status) → ((input : List ℕ) (due : Status) → IsDue words input due → Gives due answer) → IsExact words old answer
exact-by words None answer gives = tt
exact-by words (Some all) answer gives = gives all

-- what was read is all that the source had
pub exact-all : (words : List Text) (reading : Reading) (old new : Option (List ℕ)) (input : List ℕ) (answer : Status) → task_of words ≡ Some (Read reading)
    → Consumes old new input → IsAtEnd new → length input ≤ limit → GivesRead reading input answer → IsExact words old answer
exact-all words reading None new input answer valid taken end within gives = tt
exact-all words reading (Some all) None input answer valid taken end within gives = absurd taken
exact-all words reading (Some all) (Some rest) input answer valid taken end within gives =
    let same : input ≡ all = sym (taken ∙ ap (λ l. input ++ l) end ∙ append-nil input) in
    subst (λ l. (due : Status) → IsDue words l due → Gives due answer) same (due-reading words reading input answer valid within gives)

-- what was read is more than may be
pub exact-long : (words : List Text) (reading : Reading) (old new : Option (List ℕ)) (input : List ℕ) (answer : Status) → task_of words ≡ Some (Read reading)
    → Consumes old new input → length input ≡ limit + 1 → Gives TooLong answer → IsExact words old answer
exact-long words reading None new input answer valid taken long gives = tt
exact-long words reading (Some all) None input answer valid taken long gives = absurd taken
exact-long words reading (Some all) (Some rest) input answer valid taken long gives =
    let longer : limit < length all = omega (arith, long, ap (λ (l : List ℕ). length l) taken, length-append input rest) in
    due-long words reading all answer valid longer gives

finished : (due answer : Status) → Gives due answer → answer ≢ ReadFault → answer ≢ WriteFault → (answer ≡ due) ⊎ (answer ≡ OutOfMemory)
finished due Done g r w = inl (g refl)
finished due No g r w = inl (g refl)
finished due OutOfMemory g r w = inr refl
finished due ReadFault g r w = absurd (r refl)
finished due WriteFault g r w = absurd (w refl)
finished due Usage g r w = inl (g refl)
finished due TooLong g r w = inl (g refl)
finished due ProgramRefused g r w = inl (g refl)
finished due ScriptRefused g r w = inl (g refl)

-- with no new fault, the status is the one that is due, or there was no memory
pub complete : (words : List Text) (old : Option (List ℕ)) (answer : Status) (A B : Type 0) → IsExact words old answer → (answer ≡ ReadFault → A) → (answer ≡ WriteFault → B)
    → IfSome old (λ all. (due : Status) → IsDue words all due → ¬ A → ¬ B → (answer ≡ due) ⊎ (answer ≡ OutOfMemory))
complete words None answer A B exact read write = tt
complete words (Some all) answer A B exact read write = λ due is no_a no_b. finished due answer (exact due is) (λ h. no_a (read h)) (λ h. no_b (write h))

-- an input that is too long
pub complete-long : (words : List Text) (old : Option (List ℕ)) (A B : Type 0) → IsExact words old TooLong
    → IfSome old (λ all. (due : Status) → IsDue words all due → ¬ A → ¬ B → (TooLong ≡ due) ⊎ (TooLong ≡ OutOfMemory))
complete-long words None A B exact = tt
complete-long words (Some all) A B exact = λ due is no_a no_b. inl (exact due is refl)

-- If an input was read to its end

-- it is answered with this status
pub answered : (reading : Reading) (old new w u : Option (List ℕ)) (used_old used : ℕ) (input : List ℕ) (answer due : Status) → answer ≡ due → Consumes old new input → IsAtEnd new → length input ≤ limit
    → ((j : Judgement) × IsJudgedFor reading input j × Writes w u used_old used (IsOutput reading answer (report_in reading input) j)) → Answers reading due old new w u used_old used
answered reading old new w u used_old used input answer due same taken end within (j, found, wrote) =
    (input, taken, end, (within, j, found, subst (λ s. Writes w u used_old used (IsOutput reading s (report_in reading input) j)) same wrote))

-- only `verify` says no
only-verify : (reading : Reading) (report : List ℕ) (j : Judgement) (text : List ℕ) (bodies : ℕ) → IsOutput reading No report j text bodies → reading ≡ Verify
only-verify (Run counts ops) report (accepted p steps) text bodies (clash, work) = cc
only-verify Check report (accepted p steps) text bodies (clash, work) = cc
only-verify Verify report (accepted p steps) text bodies work = refl
only-verify reading report (program_refused line) text bodies (clash, told) = cc
only-verify reading report (script_refused line) text bodies (clash, told) = cc

pub no-answered : (words : List Text) (reading : Reading) (old new w u : Option (List ℕ)) (used_old used : ℕ) → task_of words ≡ Some (Read reading) → Answers reading No old new w u used_old used
    → (task_of words ≡ Some (Read Verify)) × Answers Verify No old new w u used_old used
no-answered words reading old new w u used_old used asked (input, taken, end, (within, j, found, (text, bodies, output, wrote, counted))) =
    subst (λ t. (task_of words ≡ Some (Read t)) × Answers t No old new w u used_old used) (only-verify reading (report_in reading input) j text bodies output)
    (asked, (input, taken, end, (within, j, found, (text, bodies, output, wrote, counted))))

-- If the call was cut short

pub lost-by : (words : List Text) (old new w u : Option (List ℕ)) (used_old used : ℕ) (P : List ℕ → ℕ → Type 0) → ((part : List ℕ) (bodies : ℕ) → P part bodies → IsLost words old new part bodies)
    → Writes w u used_old used P → Writes w u used_old used (IsLost words old new)
lost-by words old new w u used_old used P by wrote = (wrote.0, wrote.1, by wrote.0 wrote.1 wrote.2, wrote.3, wrote.4)

-- of the output of an input that was read
pub lost-reading : (words : List Text) (reading : Reading) (old new w u : Option (List ℕ)) (used_old used : ℕ) (input : List ℕ) → task_of words ≡ Some (Read reading) → Consumes old new input → IsAtEnd new
    → length input ≤ limit → (j : Judgement) → IsJudgedFor reading input j → Writes w u used_old used (IsLostOutput reading (report_in reading input) j) → Writes w u used_old used (IsLost words old new)
lost-reading words reading old new w u used_old used input valid taken end within j found wrote =
    (wrote.0, wrote.1, lost_output reading valid (input, taken, end, (within, j, found, wrote.2)), wrote.3, wrote.4)

-- what finds no memory: nothing, or of the output of an input that was read
pub short-reading : (words : List Text) (reading : Reading) (old new w u : Option (List ℕ)) (used_old used : ℕ) (input : List ℕ) → task_of words ≡ Some (Read reading) → Consumes old new input → IsAtEnd new
    → length input ≤ limit → Writes w u used_old used (OrNothing (IsShortOutput reading input)) → Writes w u used_old used (IsShort words old new)
short-reading words reading old new w u used_old used input valid taken end within wrote = (wrote.0, wrote.1, by wrote.2, wrote.3, wrote.4)
  where
    by : OrNothing (IsShortOutput reading input) wrote.0 wrote.1 → IsShort words old new wrote.0 wrote.1
    by (inl none) = nothing none
    by (inr h) = short_output reading valid (input, taken, end, (within, h))

-- nothing, or of a summary
pub short-generated : (words : List Text) (n : ℕ) (old new w u : Option (List ℕ)) (used_old used : ℕ) → task_of words ≡ Some (Gen n) → Writes w u used_old used (OrNothing (IsShortSummary n))
    → Writes w u used_old used (IsShort words old new)
short-generated words n old new w u used_old used valid wrote = (wrote.0, wrote.1, by wrote.2, wrote.3, wrote.4)
  where
    by : OrNothing (IsShortSummary n) wrote.0 wrote.1 → IsShort words old new wrote.0 wrote.1
    by (inl none) = nothing none
    by (inr h) = short_summary n valid h

-- nothing at all
pub short-nothing : (words : List Text) (old new w : Option (List ℕ)) (used : ℕ) → Writes w w used used (IsShort words old new)
short-nothing words old new w used = ([], 0, nothing (refl, refl), Appends-nil w, omega arith)

-- a generated run that finds no memory, before it or in it
pub summary-short : (n : ℕ) (p : Program) (steps : List Step) (used_old used : ℕ) → IsGenerated n p steps → CountsShort p steps used_old used
    → (used ≡ used_old) ⊎ ((bodies : ℕ) × IsShortSummary n [] bodies × (used ≡ used_old + bodies))
summary-short n p steps used_old used made (inl same) = inl same
summary-short n p steps used_old used made (inr h) =
    inr (h.1, record { program = p; steps = steps; generated = made; report = h.0; breaks = h.2; nothing = refl }, h.4)

-- what is written of a summary if memory runs out
pub summary-nothing : (n : ℕ) (w : Option (List ℕ)) (used_old used : ℕ) → (used ≡ used_old) ⊎ ((bodies : ℕ) × IsShortSummary n [] bodies × (used ≡ used_old + bodies))
    → Writes w w used_old used (OrNothing (IsShortSummary n))
summary-nothing n w used_old used (inl same) = nothing-written (IsShortSummary n) w used_old used same
summary-nothing n w used_old used (inr h) = ([], h.0, inr h.1, Appends-nil w, h.2)

-- a summary that was written, or a part of it
pub summary-whole : (n : ℕ) (text : List ℕ) (w u : Option (List ℕ)) (used_old used : ℕ) → ((bodies : ℕ) × IsSummary n text bodies × (used ≡ used_old + bodies)) → Appends w u text
    → Writes w u used_old used (IsSummary n)
summary-whole n text w u used_old used h wrote = (text, h.0, h.1, wrote, h.2)

pub summary-lost : (n : ℕ) (text : List ℕ) (w u : Option (List ℕ)) (used_old used : ℕ) → ((bodies : ℕ) × IsSummary n text bodies × (used ≡ used_old + bodies)) → AppendsPart w u text
    → Writes w u used_old used (IsLostSummary n)
summary-lost n text w u used_old used h wrote = (wrote.0, h.0, record { text = text; summary = h.1; is_part = wrote.1 }, wrote.2, h.2)
