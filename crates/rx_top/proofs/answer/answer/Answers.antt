use Rattle.std.proofs.Common.{◌≡◌, List, ℕ, refl, subst}
use Rattle.rx_accept.specs.Judgements.{AreJudged, Judgement, accepted, program_refused, script_refused}
use Rattle.rx_top.specs.declared.status.Status.TheVariants.{ProgramRefused, ScriptRefused}
use Rattle.rx_top.specs.Outcome.{report_in, IsJudgedFor, IsLostWork, IsShortOutput, IsShortWork, IsWork, OrNothing, Writes}
use Rattle.rx_top.proofs.Due.{IsAlone, alone-read, gives-alone, gives-as, judged-read, line-lost, line-whole-with, nothing-written, work-short}
use Rattle.rx_top.proofs.Reported.{writes-less}
use Rattle.rx_top.proofs.answer.answer.Goals as goal

-- what is accepted

pub answer_accepted-requires-clause-fits : goal.answer_accepted-requires-clause-fits
answer_accepted-requires-clause-fits g c =
    let judged : AreJudged (record { program = c.split.result.0.now; script = c.split.result.1.now }) (accepted c.in-Ok-Accepted.checked c.in-Ok-Accepted.found.items) = rw c.in-Ok-Accepted.field-0-is at c.in-Ok-Accepted.ensures.judged in
    rw c.deref.ensures.value (c.steps_can_be_taken.ensures.script c.in-Ok-Accepted.checked c.split.result.1.now c.in-Ok-Accepted.found.items judged.1)

pub returns-in-Ok-Accepted-clause-gives : goal.returns-in-Ok-Accepted-clause-gives
returns-in-Ok-Accepted-clause-gives g c =
    let j : Judgement = accepted c.in-Ok-Accepted.checked c.in-Ok-Accepted.found.items in
    let alone : IsAlone c.args.reading c.args.input.now j =
    alone-read c.args.reading c.args.input.now c.split.result.0.now c.split.result.1.now c.split.ensures.program c.split.ensures.script j (rw c.in-Ok-Accepted.field-0-is at c.in-Ok-Accepted.ensures.only) in
    gives-alone c.args.reading c.args.input.now j alone (report_in c.args.reading c.args.input.now) c.answer_accepted.result (rw c.split.ensures.report at (rw c.deref.ensures.value at c.answer_accepted.ensures.gives))

pub returns-in-Ok-Accepted-clause-done : goal.returns-in-Ok-Accepted-clause-done
returns-in-Ok-Accepted-clause-done g c whole =
    let j : Judgement = accepted c.in-Ok-Accepted.checked c.in-Ok-Accepted.found.items in
    let judged : IsJudgedFor c.args.reading c.args.input.now j =
    judged-read c.args.reading c.args.input.now c.split.result.0.now c.split.result.1.now c.split.ensures.program c.split.ensures.script j (rw c.in-Ok-Accepted.field-0-is at c.in-Ok-Accepted.ensures.judged) in
    (j, judged, subst (λ (l : List ℕ). Writes (g.K.Sink.written c.args.out.now) (g.K.Sink.written c.answer_accepted.new.out) c.args.steps.now c.answer_accepted.new.steps (IsWork c.args.reading c.answer_accepted.result c.in-Ok-Accepted.checked c.in-Ok-Accepted.found.items l)) c.split.ensures.report (rw c.deref.ensures.value at (c.answer_accepted.ensures.done whole)))

pub returns-in-Ok-Accepted-clause-lost : goal.returns-in-Ok-Accepted-clause-lost
returns-in-Ok-Accepted-clause-lost g c h =
    let j : Judgement = accepted c.in-Ok-Accepted.checked c.in-Ok-Accepted.found.items in
    let judged : IsJudgedFor c.args.reading c.args.input.now j =
    judged-read c.args.reading c.args.input.now c.split.result.0.now c.split.result.1.now c.split.ensures.program c.split.ensures.script j (rw c.in-Ok-Accepted.field-0-is at c.in-Ok-Accepted.ensures.judged) in
    (j, judged, subst (λ (l : List ℕ). Writes (g.K.Sink.written c.args.out.now) (g.K.Sink.written c.answer_accepted.new.out) c.args.steps.now c.answer_accepted.new.steps (IsLostWork c.args.reading c.in-Ok-Accepted.checked c.in-Ok-Accepted.found.items l)) c.split.ensures.report (rw c.deref.ensures.value at (c.answer_accepted.ensures.lost h)))

pub returns-in-Ok-Accepted-clause-short : goal.returns-in-Ok-Accepted-clause-short
returns-in-Ok-Accepted-clause-short g c h =
    let j : Judgement = accepted c.in-Ok-Accepted.checked c.in-Ok-Accepted.found.items in
    let judged : IsJudgedFor c.args.reading c.args.input.now j =
    judged-read c.args.reading c.args.input.now c.split.result.0.now c.split.result.1.now c.split.ensures.program c.split.ensures.script j (rw c.in-Ok-Accepted.field-0-is at c.in-Ok-Accepted.ensures.judged) in
    writes-less (IsShortWork c.args.reading c.in-Ok-Accepted.checked c.in-Ok-Accepted.found.items) (OrNothing (IsShortOutput c.args.reading c.args.input.now))
    (work-short c.args.reading c.args.input.now c.in-Ok-Accepted.checked c.in-Ok-Accepted.found.items judged) _ _ _ _ (rw c.deref.ensures.value at (c.answer_accepted.ensures.short h))

-- what is refused

pub returns-in-Ok-ProgramRefused-clause-gives : goal.returns-in-Ok-ProgramRefused-clause-gives
returns-in-Ok-ProgramRefused-clause-gives g c =
    let j : Judgement = program_refused c.in-Ok-ProgramRefused.line.items in
    let alone : IsAlone c.args.reading c.args.input.now j =
    alone-read c.args.reading c.args.input.now c.split.result.0.now c.split.result.1.now c.split.ensures.program c.split.ensures.script j (rw c.in-Ok-ProgramRefused.field-0-is at c.in-Ok-ProgramRefused.ensures.only) in
    gives-alone c.args.reading c.args.input.now j alone (report_in c.args.reading c.args.input.now) c.tell.result (gives-as ProgramRefused c.tell.result c.tell.ensures.gives)

pub returns-in-Ok-ProgramRefused-clause-done : goal.returns-in-Ok-ProgramRefused-clause-done
returns-in-Ok-ProgramRefused-clause-done g c whole =
    let j : Judgement = program_refused c.in-Ok-ProgramRefused.line.items in
    let judged : IsJudgedFor c.args.reading c.args.input.now j =
    judged-read c.args.reading c.args.input.now c.split.result.0.now c.split.result.1.now c.split.ensures.program c.split.ensures.script j (rw c.in-Ok-ProgramRefused.field-0-is at c.in-Ok-ProgramRefused.ensures.judged) in
    (j, judged, line-whole-with (c.tell.result ≡ ProgramRefused) (c.tell.ensures.gives whole) c.in-Ok-ProgramRefused.line.items _ _ _ (rw c.deref-in-Ok-ProgramRefused.ensures.value at (c.tell.ensures.done whole)))

pub returns-in-Ok-ProgramRefused-clause-lost : goal.returns-in-Ok-ProgramRefused-clause-lost
returns-in-Ok-ProgramRefused-clause-lost g c h =
    let j : Judgement = program_refused c.in-Ok-ProgramRefused.line.items in
    let judged : IsJudgedFor c.args.reading c.args.input.now j =
    judged-read c.args.reading c.args.input.now c.split.result.0.now c.split.result.1.now c.split.ensures.program c.split.ensures.script j (rw c.in-Ok-ProgramRefused.field-0-is at c.in-Ok-ProgramRefused.ensures.judged) in
    (j, judged, line-lost c.in-Ok-ProgramRefused.line.items _ _ _ (rw c.deref-in-Ok-ProgramRefused.ensures.value at (c.tell.ensures.lost h)))

pub returns-in-Ok-ScriptRefused-clause-gives : goal.returns-in-Ok-ScriptRefused-clause-gives
returns-in-Ok-ScriptRefused-clause-gives g c =
    let j : Judgement = script_refused c.in-Ok-ScriptRefused.line.items in
    let alone : IsAlone c.args.reading c.args.input.now j =
    alone-read c.args.reading c.args.input.now c.split.result.0.now c.split.result.1.now c.split.ensures.program c.split.ensures.script j (rw c.in-Ok-ScriptRefused.field-0-is at c.in-Ok-ScriptRefused.ensures.only) in
    gives-alone c.args.reading c.args.input.now j alone (report_in c.args.reading c.args.input.now) c.tell-in-Ok-ScriptRefused.result (gives-as ScriptRefused c.tell-in-Ok-ScriptRefused.result c.tell-in-Ok-ScriptRefused.ensures.gives)

pub returns-in-Ok-ScriptRefused-clause-done : goal.returns-in-Ok-ScriptRefused-clause-done
returns-in-Ok-ScriptRefused-clause-done g c whole =
    let j : Judgement = script_refused c.in-Ok-ScriptRefused.line.items in
    let judged : IsJudgedFor c.args.reading c.args.input.now j =
    judged-read c.args.reading c.args.input.now c.split.result.0.now c.split.result.1.now c.split.ensures.program c.split.ensures.script j (rw c.in-Ok-ScriptRefused.field-0-is at c.in-Ok-ScriptRefused.ensures.judged) in
    (j, judged, line-whole-with (c.tell-in-Ok-ScriptRefused.result ≡ ScriptRefused) (c.tell-in-Ok-ScriptRefused.ensures.gives whole) c.in-Ok-ScriptRefused.line.items _ _ _ (rw c.deref-in-Ok-ScriptRefused.ensures.value at (c.tell-in-Ok-ScriptRefused.ensures.done whole)))

pub returns-in-Ok-ScriptRefused-clause-lost : goal.returns-in-Ok-ScriptRefused-clause-lost
returns-in-Ok-ScriptRefused-clause-lost g c h =
    let j : Judgement = script_refused c.in-Ok-ScriptRefused.line.items in
    let judged : IsJudgedFor c.args.reading c.args.input.now j =
    judged-read c.args.reading c.args.input.now c.split.result.0.now c.split.result.1.now c.split.ensures.program c.split.ensures.script j (rw c.in-Ok-ScriptRefused.field-0-is at c.in-Ok-ScriptRefused.ensures.judged) in
    (j, judged, line-lost c.in-Ok-ScriptRefused.line.items _ _ _ (rw c.deref-in-Ok-ScriptRefused.ensures.value at (c.tell-in-Ok-ScriptRefused.ensures.lost h)))

-- no memory

pub returns-in-Err-clause-short : goal.returns-in-Err-clause-short
returns-in-Err-clause-short g c _ = nothing-written (IsShortOutput c.args.reading c.args.input.now) _ _ _ refl
