use Rattle.std.proofs.lemmas.Result.{IfOk-weaker}
use Rattle.rx_accept.specs.Judgements.{judgement_of}
use Rattle.rx_accept.proofs.accepting.accept_parts.Goals as goal

pub returns-clause-only : goal.returns-clause-only
returns-clause-only c =
    IfOk-weaker c.judge.result _ _
    (λ v judged j is. c.judgement_is_one.ensures.parts (record { program = c.args.program.now; script = c.args.script.now }) j (judgement_of v) is judged) c.judge.ensures.judged
