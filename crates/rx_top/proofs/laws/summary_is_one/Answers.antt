use Rattle.rx_top.proofs.OneLine.{summary-one}
use Rattle.rx_top.proofs.laws.summary_is_one.Goals as goal

pub returns : goal.returns
returns c = λ n.
    summary-one n
    (record {
      one = c.judgement_is_one.ensures.whole;
      judged = c.generated_input_is_accepted.ensures.judged n;
      unsliced = c.generated_input_is_accepted.ensures.unsliced n;
      alike = c.unsliced_runs_end_alike.ensures;
    })
