use Rattle.std.proofs.Common.{◌≡◌, ◌∙◌, sym, ap, append_assoc, ◌++◌, [], ◌∷◌, subst, OnOk}
use Rattle.std.specs.Prelude.{codes}
use Rattle.rx_base.specs.Values.{Text}
use Rattle.rx_lane.specs.Lanes.{has, lanes_where}
use Rattle.rx_lines.specs.Lines.{Line, line_text}
use Rattle.rx_report.proofs.Joins.{last-quiet, last-pending}
use Rattle.rx_report.proofs.draft.Draft.put_end_line.Goals as goal

pub returns-then-is_quiet-clause-put : goal.returns-then-is_quiet-clause-put
returns-then-is_quiet-clause-put c =
    let begun : Text = c.args.self.now.begun in
    let quiet = last-quiet (lanes_where (has c.args.pending)) c.args.hidden (sym c.is_quiet.ensures ∙ c.if-is_quiet.true) in
    subst (λ (t : Text). OnOk c.put.result (c.put.new.self.begun ≡ t))
    (sym (append_assoc begun (codes "end quiet") (10 ∷ [])) ∙ ap (λ (l : Line). (begun ++ line_text c.args.counts l) ++ 10 ∷ []) (sym quiet)) c.put.ensures.put

pub returns-clause-put : goal.returns-clause-put
returns-clause-put c =
    subst (λ (l : Line). OnOk c.put_pending_line.result (c.put_pending_line.new.self.begun ≡ c.args.self.now.begun ++ line_text c.args.counts l ++ 10 ∷ []))
    (sym (last-pending (lanes_where (has c.args.pending)) c.args.hidden (sym c.is_quiet.ensures ∙ c.if-is_quiet.false))) c.put_pending_line.ensures.put
