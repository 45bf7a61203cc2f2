use Rattle.std.proofs.Common.{◌≡◌, [], ◌++◌, OnOk, ◌∙◌, ap, subst}
use Rattle.rx_base.specs.Values.{Text}
use Rattle.rx_lines.specs.Lines.{report_bytes, host_lines, tree_lines}
use Rattle.rx_report.proofs.Progress.{tree_text}
use Rattle.rx_report.proofs.draft.Draft.put_tree_lines.Goals as goal

pub returns-clause-put : goal.returns-clause-put
returns-clause-put c = λ o all t is.
    let begun : c.put.new.self.begun ++ report_bytes o (host_lines [] all) ≡ c.args.self.now.begun ++ report_bytes o (tree_lines all) =
    ap (λ (x : Text). x ++ report_bytes o (host_lines [] all)) c.in_ok-put.ensures.put ∙ tree_text o c.args.self.now.begun all in
    subst (λ (x : Text). OnOk c.put_host_lines.result (c.put_host_lines.new.self.begun ≡ x)) begun (c.put_host_lines.ensures.put o all t is)
