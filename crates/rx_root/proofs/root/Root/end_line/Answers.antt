use Rattle.std.proofs.Common.{◌≡◌, ℕ, ◌∷◌, [], ◌∙◌, ap, subst}
use Rattle.rx_lane.specs.Lanes.{Lanes, has, lanes_where}
use Rattle.rx_lines.specs.Lines.{Line, last_line}
use Rattle.rx_model.specs.State.{end_line}
use Rattle.rx_model.specs.Laws.{IsBounded}
use Rattle.rx_begin.proofs.Begins.{on_ok}
use Rattle.rx_writing.specs.Written.{with_lines}
use Rattle.rx_root.specs.Rooted.{Rooted}
use Rattle.rx_root.proofs.Lines.{last_line_is}
use Rattle.rx_root.proofs.TurnLines.{with_one}
use Rattle.rx_root.proofs.root.Root.end_line.Goals as goal

pub returns-clause-ok : goal.returns-clause-ok
returns-clause-ok c =
    on_ok c.end_line.result _ _
    (λ is s h.
    let program = ap (λ (v : Rooted). v.rendering.program) c.self.view_is in
    let last : last_line (lanes_where (has c.pending.result)) c.hidden_count.result ≡ end_line s =
    ap (λ (ls : Lanes). last_line (lanes_where (has ls)) c.hidden_count.result) (c.pending.ensures s h)
    ∙ (ap (λ (n : ℕ). last_line (lanes_where (has s.schedule.pending)) n) (c.hidden_count.ensures s h)
    ∙ last_line_is c.args.self.now.rendering.program (subst IsBounded program c.facts.ensures.bounded) s h.reached) in
    is ∙ (with_one c.args.log.now (last_line (lanes_where (has c.pending.result)) c.hidden_count.result) ∙ ap (λ (l : Line). with_lines c.args.log.now (l ∷ [])) last))
    c.end_line.ensures.written
