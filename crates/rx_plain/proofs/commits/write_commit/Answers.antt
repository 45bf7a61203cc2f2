use Rattle.std.proofs.Common.{◌+◌, ◌∙◌}
use Rattle.std.proofs.lemmas.Result.{on_ok_weaker}
use Rattle.rx_forest.specs.HostOps.{host_ops}
use Rattle.rx_lines.specs.Lines.{committed, with_line}
use Rattle.rx_effect.specs.EffectLog.{layout_log}
use Rattle.rx_elem.specs.Compare.{compare_trees}
use Rattle.rx_meaning.specs.Outcome.{newly_caught}
use Rattle.rx_plain.proofs.CommitLines.{commit-parts}
use Rattle.rx_plain.proofs.commits.write_commit.Goals as goal

pub returns : goal.returns
returns c =
    on_ok_weaker c.add_lines.result
    (λ last s g new number lanes caught layout.
    commit-parts c.args.log.now c.commit_line.new.self c.add_caught.new.log c.add_lines.new.log
    (committed (s.commits + 1) g.lanes (record { units = c.args.units; bodies = c.args.bodies }) new) (host_ops s.tree new)
    (newly_caught s.tree new) c.args.caught.now (layout_log (compare_trees s.tree new)) _ c.requires caught layout
    (c.in_ok-commit_line.ensures.written new ∙ (λ i. with_line c.args.log.now (committed (number i) (lanes i) (record { units = c.args.units; bodies = c.args.bodies }) new)))
    c.in_ok-add_caught.ensures.written last)
    c.add_lines.ensures.written
