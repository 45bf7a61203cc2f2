use Rattle.std.proofs.Common.{◌≡◌, ◌∙◌, ap, ◌++◌, [], ◌∷◌, subst, OnOk, append_assoc}
use Rattle.std.specs.Prelude.{map, codes}
use Rattle.rx_base.specs.Values.{Text}
use Rattle.rx_lines.specs.Lines.{part_text, joined}
use Rattle.rx_report.proofs.draft.Draft.put_no_instance_line.Goals as goal

pub returns-clause-put : goal.returns-clause-put
returns-clause-put c =
    let path : Text = joined (codes "/") (map part_text c.args.path.now) in
    let before : c.put_path.new.self.begun ≡ c.args.self.now.begun ++ (codes "no-instance " ++ path) =
    c.in_ok-put_path.ensures.put ∙ ap (λ (l : Text). l ++ path) c.in_ok-put.ensures.put ∙ append_assoc c.args.self.now.begun (codes "no-instance ") path in
    subst (λ (l : Text). OnOk c.put-2.result (c.put-2.new.self.begun ≡ l)) (ap (λ (l : Text). l ++ 10 ∷ []) before) c.put-2.ensures.put
