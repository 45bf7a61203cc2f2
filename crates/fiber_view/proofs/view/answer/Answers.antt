use Rattle.rx_script.specs.Input.{input_of}
use Rattle.rx_accept.specs.Judgements.{IsJudged, accepted, program_refused, script_refused}
use Rattle.fiber_view.proofs.view.answer.Goals as goal

pub show-requires-clause-fits : goal.show-requires-clause-fits
show-requires-clause-fits g c =
    let judged : IsJudged c.args.input.now (accepted c.in-Ok-Accepted.checked c.in-Ok-Accepted.found.items) = rw c.in-Ok-Accepted.field-0-is at c.in-Ok-Accepted.ensures.judged in
    rw c.deref.ensures.value (c.steps_can_be_taken.ensures.script c.in-Ok-Accepted.checked (input_of c.args.input.now).script c.in-Ok-Accepted.found.items judged.1)

pub returns-in-Ok-Accepted-clause-done : goal.returns-in-Ok-Accepted-clause-done
returns-in-Ok-Accepted-clause-done g c h =
    let judged : IsJudged c.args.input.now (accepted c.in-Ok-Accepted.checked c.in-Ok-Accepted.found.items) = rw c.in-Ok-Accepted.field-0-is at c.in-Ok-Accepted.ensures.judged in
    (c.in-Ok-Accepted.checked, c.in-Ok-Accepted.found.items, judged, rw c.deref.ensures.value at (c.show.ensures.done h))

pub returns-in-Ok-ProgramRefused-clause-program_refused : goal.returns-in-Ok-ProgramRefused-clause-program_refused
returns-in-Ok-ProgramRefused-clause-program_refused g c h =
    let judged : IsJudged c.args.input.now (program_refused c.in-Ok-ProgramRefused.line.items) = rw c.in-Ok-ProgramRefused.field-0-is at c.in-Ok-ProgramRefused.ensures.judged in
    (c.in-Ok-ProgramRefused.line.items, judged, rw c.deref-in-Ok-ProgramRefused.ensures.value at (c.tell.ensures.written h))

pub returns-in-Ok-ScriptRefused-clause-script_refused : goal.returns-in-Ok-ScriptRefused-clause-script_refused
returns-in-Ok-ScriptRefused-clause-script_refused g c h =
    let judged : IsJudged c.args.input.now (script_refused c.in-Ok-ScriptRefused.line.items) = rw c.in-Ok-ScriptRefused.field-0-is at c.in-Ok-ScriptRefused.ensures.judged in
    (c.in-Ok-ScriptRefused.line.items, judged, rw c.deref-in-Ok-ScriptRefused.ensures.value at (c.tell-in-Ok-ScriptRefused.ensures.written h))
