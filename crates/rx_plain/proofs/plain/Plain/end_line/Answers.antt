use Rattle.std.proofs.Common.{◌∷◌, [], ◌∙◌, ap, sym}
use Rattle.std.proofs.lemmas.Result.{on_ok_weaker}
use Rattle.rx_lane.specs.Lanes.{has, lanes_where}
use Rattle.rx_lines.specs.Lines.{Line, last_line}
use Rattle.rx_sched.specs.Schedule.{Schedule}
use Rattle.rx_writing.specs.Written.{with_lines}
use Rattle.rx_writing.proofs.Behind.{with_lines-one}
use Rattle.rx_plain.proofs.Reading.{last_line_is}
use Rattle.rx_plain.proofs.plain.Plain.end_line.Goals as goal

pub returns-clause-ok : goal.returns-clause-ok
returns-clause-ok c =
    on_ok_weaker c.end_line.result
    (λ is p s bounded h.
    is
    ∙ sym (with_lines-one c.args.log.now (last_line (lanes_where (has c.pending.result)) c.hidden_count.result))
    ∙ ap (λ (l : Line). with_lines c.args.log.now (l ∷ []))
    (last_line_is p bounded s h.reached c.pending.result c.hidden_count.result (c.pending.ensures ∙ ap (λ (x : Schedule). x.pending) h.schedule) (c.hidden_count.ensures p s bounded h)))
    c.end_line.ensures.written
