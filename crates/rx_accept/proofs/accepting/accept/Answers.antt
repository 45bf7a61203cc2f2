use Rattle.std.proofs.Common.{subst, sym}
use Rattle.std.proofs.lemmas.Result.{IfOk-weaker}
use Rattle.rx_script.specs.Input.{Input}
use Rattle.rx_accept.specs.Judgements.{AreJudged, judgement_of}
use Rattle.rx_accept.proofs.Parts.{parts-are}
use Rattle.rx_accept.proofs.accepting.accept.Goals as goal

pub returns-clause-judged : goal.returns-clause-judged
returns-clause-judged c =
    let same = parts-are c.args.input.now _ _ c.split_input.ensures.program c.split_input.ensures.script in
    IfOk-weaker c.accept_parts.result _ _ (λ v judged. subst (λ (parts : Input). AreJudged parts (judgement_of v)) same judged) c.accept_parts.ensures.judged

pub returns-clause-only : goal.returns-clause-only
returns-clause-only c =
    let same = parts-are c.args.input.now _ _ c.split_input.ensures.program c.split_input.ensures.script in
    IfOk-weaker c.accept_parts.result _ _ (λ v only j is. only j (subst (λ (parts : Input). AreJudged parts j) (sym same) is)) c.accept_parts.ensures.only
