use Rattle.std.proofs.Common.{◌≡◌, ◌∙◌, ap, ◌++◌, [], ◌∷◌, subst, OnOk}
use Rattle.std.specs.Prelude.{codes, decimal}
use Rattle.rx_base.specs.Values.{Text}
use Rattle.rx_lane.specs.Lanes.{has, lanes_where}
use Rattle.rx_lines.specs.Lines.{lanes_text}
use Rattle.rx_report.proofs.Joins.{behind-four}
use Rattle.rx_report.proofs.draft.Draft.put_pending_line.Goals as goal

pub returns-clause-put : goal.returns-clause-put
returns-clause-put c =
    let old : Text = c.args.self.now.begun in
    let lanes : Text = lanes_text (lanes_where (has c.args.pending)) in
    let number : Text = decimal c.args.hidden in
    let named : c.put_lanes.new.self.begun ≡ (old ++ codes "end pending ") ++ lanes = c.in_ok-put_lanes.ensures.put ∙ ap (λ (t : Text). t ++ lanes) c.in_ok-put.ensures.put in
    let counted : c.put_number.new.self.begun ≡ old ++ (((codes "end pending " ++ lanes) ++ codes " suspended ") ++ number) =
    c.in_ok-put_number.ensures.put ∙ ap (λ (t : Text). t ++ number) (c.in_ok-put-2.ensures.put ∙ ap (λ (t : Text). t ++ codes " suspended ") named)
    ∙ behind-four old (codes "end pending ") lanes (codes " suspended ") number in
    subst (λ (t : Text). OnOk c.put-3.result (c.put-3.new.self.begun ≡ t)) (ap (λ (t : Text). t ++ 10 ∷ []) counted) c.put-3.ensures.put
