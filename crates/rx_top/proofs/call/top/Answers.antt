use Rattle.std.proofs.Common.{rules, ◌≡◌, ◌∙◌, ◌≤◌, ◌+◌, ap, length, Some, true, refl, sym}
use Rattle.std.specs.Io.KnownBytes.{Consumes}
use Rattle.rx_words.specs.declared.task.Task.TheVariants.{Read, Gen}
use Rattle.rx_top.specs.declared.status.Status.TheVariants.{Done, No, ProgramRefused, ScriptRefused, TooLong}
use Rattle.rx_words.specs.Words.{reads, reads_input, task_of, texts}
use Rattle.rx_top.specs.Outcome.{limit, too_long_line, IsLostLine, IsLostSummary, lost_too_long, lost_summary, Reads, is_cut_short}
use Rattle.rx_top.proofs.Due.{answered, no-answered, lost-by, line-lost, lost-reading, short-reading, short-generated, short-nothing, exact-by, exact-all, exact-long, due-generated, complete, complete-long}
use Rattle.rx_top.proofs.call.top.Goals as goal

-- a generated run

pub returns-in-Gen-clause-write_fault : goal.returns-in-Gen-clause-write_fault
returns-in-Gen-clause-write_fault g c h =
    let asked : task_of (texts c.args.words.now) ≡ Some (Gen c.in-Gen.rounds) = sym c.in-Ok-Some.ensures.task ∙ c.in-Ok-Some.field-0-is ∙ ap (λ t. Some t) c.in-Gen.is in
    (c.write_summary.ensures.faults.rose h, lost-by (texts c.args.words.now) _ _ _ _ _ _ (IsLostSummary c.in-Gen.rounds) (λ part bodies s. lost_summary c.in-Gen.rounds asked s) (c.write_summary.ensures.lost h))

pub returns-in-Gen-clause-memory : goal.returns-in-Gen-clause-memory
returns-in-Gen-clause-memory g c h =
    let asked : task_of (texts c.args.words.now) ≡ Some (Gen c.in-Gen.rounds) = sym c.in-Ok-Some.ensures.task ∙ c.in-Ok-Some.field-0-is ∙ ap (λ t. Some t) c.in-Gen.is in
    short-generated (texts c.args.words.now) c.in-Gen.rounds _ _ _ _ _ _ asked (c.write_summary.ensures.short h)

pub returns-in-Gen-clause-exact : goal.returns-in-Gen-clause-exact
returns-in-Gen-clause-exact g c =
    let asked : task_of (texts c.args.words.now) ≡ Some (Gen c.in-Gen.rounds) = sym c.in-Ok-Some.ensures.task ∙ c.in-Ok-Some.field-0-is ∙ ap (λ t. Some t) c.in-Gen.is in
    exact-by (texts c.args.words.now) _ c.write_summary.result (λ input. due-generated (texts c.args.words.now) c.in-Gen.rounds input c.write_summary.result asked c.write_summary.ensures.gives)

pub returns-in-Gen-clause-complete : goal.returns-in-Gen-clause-complete
returns-in-Gen-clause-complete g c =
    let asked : task_of (texts c.args.words.now) ≡ Some (Gen c.in-Gen.rounds) = sym c.in-Ok-Some.ensures.task ∙ c.in-Ok-Some.field-0-is ∙ ap (λ t. Some t) c.in-Gen.is in
    let exact = exact-by (texts c.args.words.now) _ c.write_summary.result (λ input. due-generated (texts c.args.words.now) c.in-Gen.rounds input c.write_summary.result asked c.write_summary.ensures.gives) in
    complete (texts c.args.words.now) _ c.write_summary.result _ _ exact (λ h. absurd (c.write_summary.ensures.no_read h)) c.write_summary.ensures.faults.rose

-- an input that was read

pub returns-in-Ok-clause-done : goal.returns-in-Ok-clause-done
returns-in-Ok-clause-done g c h =
    let asked : task_of (texts c.args.words.now) ≡ Some (Read c.in-Read.reading) = sym c.in-Ok-Some.ensures.task ∙ c.in-Ok-Some.field-0-is ∙ ap (λ t. Some t) c.in-Read.is in
    let taken : Consumes (g.S.Source.left c.args.src.now) (g.S.Source.left c.read_all.new.src) c.in-Ok.input.items = search rules in
    let within : length c.in-Ok.input.items ≤ limit = search rules in
    let d = rw c.deref.ensures.value at (c.answer.ensures.done (ap (λ s. is_cut_short s) h)) in
    (Read c.in-Read.reading, asked, answered c.in-Read.reading _ _ _ _ _ _ c.in-Ok.input.items c.answer.result Done h taken c.in-Ok.ensures.end within d)

pub returns-in-Ok-clause-no : goal.returns-in-Ok-clause-no
returns-in-Ok-clause-no g c h =
    let asked : task_of (texts c.args.words.now) ≡ Some (Read c.in-Read.reading) = sym c.in-Ok-Some.ensures.task ∙ c.in-Ok-Some.field-0-is ∙ ap (λ t. Some t) c.in-Read.is in
    let taken : Consumes (g.S.Source.left c.args.src.now) (g.S.Source.left c.read_all.new.src) c.in-Ok.input.items = search rules in
    let within : length c.in-Ok.input.items ≤ limit = search rules in
    let d = rw c.deref.ensures.value at (c.answer.ensures.done (ap (λ s. is_cut_short s) h)) in
    no-answered (texts c.args.words.now) c.in-Read.reading _ _ _ _ _ _ asked (answered c.in-Read.reading _ _ _ _ _ _ c.in-Ok.input.items c.answer.result No h taken c.in-Ok.ensures.end within d)

pub returns-in-Ok-clause-program_refused : goal.returns-in-Ok-clause-program_refused
returns-in-Ok-clause-program_refused g c h =
    let asked : task_of (texts c.args.words.now) ≡ Some (Read c.in-Read.reading) = sym c.in-Ok-Some.ensures.task ∙ c.in-Ok-Some.field-0-is ∙ ap (λ t. Some t) c.in-Read.is in
    let taken : Consumes (g.S.Source.left c.args.src.now) (g.S.Source.left c.read_all.new.src) c.in-Ok.input.items = search rules in
    let within : length c.in-Ok.input.items ≤ limit = search rules in
    let d = rw c.deref.ensures.value at (c.answer.ensures.done (ap (λ s. is_cut_short s) h)) in
    (c.in-Read.reading, asked, answered c.in-Read.reading _ _ _ _ _ _ c.in-Ok.input.items c.answer.result ProgramRefused h taken c.in-Ok.ensures.end within d)

pub returns-in-Ok-clause-script_refused : goal.returns-in-Ok-clause-script_refused
returns-in-Ok-clause-script_refused g c h =
    let asked : task_of (texts c.args.words.now) ≡ Some (Read c.in-Read.reading) = sym c.in-Ok-Some.ensures.task ∙ c.in-Ok-Some.field-0-is ∙ ap (λ t. Some t) c.in-Read.is in
    let taken : Consumes (g.S.Source.left c.args.src.now) (g.S.Source.left c.read_all.new.src) c.in-Ok.input.items = search rules in
    let within : length c.in-Ok.input.items ≤ limit = search rules in
    let d = rw c.deref.ensures.value at (c.answer.ensures.done (ap (λ s. is_cut_short s) h)) in
    (c.in-Read.reading, asked, answered c.in-Read.reading _ _ _ _ _ _ c.in-Ok.input.items c.answer.result ScriptRefused h taken c.in-Ok.ensures.end within d)

pub returns-in-Ok-clause-write_fault : goal.returns-in-Ok-clause-write_fault
returns-in-Ok-clause-write_fault g c h =
    let asked : task_of (texts c.args.words.now) ≡ Some (Read c.in-Read.reading) = sym c.in-Ok-Some.ensures.task ∙ c.in-Ok-Some.field-0-is ∙ ap (λ t. Some t) c.in-Read.is in
    let taken : Consumes (g.S.Source.left c.args.src.now) (g.S.Source.left c.read_all.new.src) c.in-Ok.input.items = search rules in
    let within : length c.in-Ok.input.items ≤ limit = search rules in
    let d = rw c.deref.ensures.value at (c.answer.ensures.lost h) in
    (c.answer.ensures.faults.rose h, lost-reading (texts c.args.words.now) c.in-Read.reading _ _ _ _ _ _ _ asked taken c.in-Ok.ensures.end within d.0 d.1 d.2)

pub returns-in-Ok-clause-memory : goal.returns-in-Ok-clause-memory
returns-in-Ok-clause-memory g c h =
    let asked : task_of (texts c.args.words.now) ≡ Some (Read c.in-Read.reading) = sym c.in-Ok-Some.ensures.task ∙ c.in-Ok-Some.field-0-is ∙ ap (λ t. Some t) c.in-Read.is in
    let taken : Consumes (g.S.Source.left c.args.src.now) (g.S.Source.left c.read_all.new.src) c.in-Ok.input.items = search rules in
    let within : length c.in-Ok.input.items ≤ limit = search rules in
    short-reading (texts c.args.words.now) c.in-Read.reading _ _ _ _ _ _ _ asked taken c.in-Ok.ensures.end within (rw c.deref.ensures.value at (c.answer.ensures.short h))

pub returns-in-Ok-clause-exact : goal.returns-in-Ok-clause-exact
returns-in-Ok-clause-exact g c =
    let asked : task_of (texts c.args.words.now) ≡ Some (Read c.in-Read.reading) = sym c.in-Ok-Some.ensures.task ∙ c.in-Ok-Some.field-0-is ∙ ap (λ t. Some t) c.in-Read.is in
    let taken : Consumes (g.S.Source.left c.args.src.now) (g.S.Source.left c.read_all.new.src) c.in-Ok.input.items = search rules in
    let within : length c.in-Ok.input.items ≤ limit = search rules in
    exact-all (texts c.args.words.now) c.in-Read.reading _ _ _ c.answer.result asked taken c.in-Ok.ensures.end within (rw c.deref.ensures.value at c.answer.ensures.gives)

pub returns-in-Ok-clause-complete : goal.returns-in-Ok-clause-complete
returns-in-Ok-clause-complete g c =
    let asked : task_of (texts c.args.words.now) ≡ Some (Read c.in-Read.reading) = sym c.in-Ok-Some.ensures.task ∙ c.in-Ok-Some.field-0-is ∙ ap (λ t. Some t) c.in-Read.is in
    let taken : Consumes (g.S.Source.left c.args.src.now) (g.S.Source.left c.read_all.new.src) c.in-Ok.input.items = search rules in
    let within : length c.in-Ok.input.items ≤ limit = search rules in
    let exact = exact-all (texts c.args.words.now) c.in-Read.reading _ _ _ c.answer.result asked taken c.in-Ok.ensures.end within (rw c.deref.ensures.value at c.answer.ensures.gives) in
    complete (texts c.args.words.now) _ c.answer.result _ _ exact (λ h. absurd (c.answer.ensures.no_read h)) c.answer.ensures.faults.rose

-- an input that is too long

pub returns-in-Err-write_all-clause-write_fault : goal.returns-in-Err-write_all-clause-write_fault
returns-in-Err-write_all-clause-write_fault g c _ =
    let asked : task_of (texts c.args.words.now) ≡ Some (Read c.in-Read.reading) = sym c.in-Ok-Some.ensures.task ∙ c.in-Ok-Some.field-0-is ∙ ap (λ t. Some t) c.in-Read.is in
    let valid : reads_input (texts c.args.words.now) ≡ true = ap reads asked in
    let read : Reads (g.S.Source.left c.args.src.now) (g.S.Source.left c.read_all.new.src) (λ input. length input ≡ limit + 1) = search rules in
    (search rules, lost-by (texts c.args.words.now) _ _ _ _ _ _ (IsLostLine too_long_line) (λ part bodies s. lost_too_long valid read s) (line-lost too_long_line _ _ _ c.in-Err-write_all.ensures.err))

pub returns-in-Ok-write_all-clause-exact : goal.returns-in-Ok-write_all-clause-exact
returns-in-Ok-write_all-clause-exact g c =
    let asked : task_of (texts c.args.words.now) ≡ Some (Read c.in-Read.reading) = sym c.in-Ok-Some.ensures.task ∙ c.in-Ok-Some.field-0-is ∙ ap (λ t. Some t) c.in-Read.is in
    let read : Reads (g.S.Source.left c.args.src.now) (g.S.Source.left c.read_all.new.src) (λ input. length input ≡ limit + 1) = search rules in
    exact-long (texts c.args.words.now) c.in-Read.reading _ _ read.0 TooLong asked read.1 read.2 (λ whole. refl)

pub returns-in-Ok-write_all-clause-complete : goal.returns-in-Ok-write_all-clause-complete
returns-in-Ok-write_all-clause-complete g c =
    let asked : task_of (texts c.args.words.now) ≡ Some (Read c.in-Read.reading) = sym c.in-Ok-Some.ensures.task ∙ c.in-Ok-Some.field-0-is ∙ ap (λ t. Some t) c.in-Read.is in
    let read : Reads (g.S.Source.left c.args.src.now) (g.S.Source.left c.read_all.new.src) (λ input. length input ≡ limit + 1) = search rules in
    complete-long (texts c.args.words.now) _ _ _ (exact-long (texts c.args.words.now) c.in-Read.reading _ _ read.0 TooLong asked read.1 read.2 (λ whole. refl))

-- no memory

pub returns-in-Err-clause-memory : goal.returns-in-Err-clause-memory
returns-in-Err-clause-memory g c _ = short-nothing (texts c.args.words.now) _ _ _ _
