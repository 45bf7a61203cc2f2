use Rattle.std.proofs.Common.{ap, ◌∙◌}
use Rattle.rx_elem.specs.Compare.{compare_trees}
use Rattle.rx_effect.specs.EffectLog.{layout_log, passive_of}
use Rattle.end_laws.proofs.Compared.{trees_same}
use Rattle.end_laws.proofs.Logs.{layout_same, passive_same}
use Rattle.end_laws.proofs.Outcomes.{ops_same, caught_same, hidden_count_same, all_awaits_same, outcome_same}
use Rattle.end_laws.proofs.laws.ends_are_not_compared.Goals as goal

pub returns : goal.returns
returns c =
    record {
      layout = λ old new. ap layout_log (trees_same old new) ∙ layout_same (compare_trees old new);
      passive = λ old new. ap passive_of (trees_same old new) ∙ passive_same (compare_trees old new);
      ops = ops_same;
      caught = caught_same;
      hidden = hidden_count_same;
      awaits = all_awaits_same;
      outcome = outcome_same;
    }
