use Rattle.std.proofs.Common.{◌∙◌, sym}
use Rattle.rx_elem.specs.Compare.{changes, compare_trees}
use Rattle.rx_compare.proofs.Hiding.{hidden-all, outcome-deferred, outcome-of_none}
use Rattle.rx_compare.proofs.outcome.outcome_of.Goals as goal

pub returns-in_default : goal.returns-in_default
returns-in_default c old new e = outcome-of_none c.args.lanes new _ (sym c.in_default.is ∙ e ∙ hidden-all (changes (compare_trees old new)))

pub returns-then-only_transitions : goal.returns-then-only_transitions
returns-then-only_transitions c old new e =
    outcome-deferred c.args.lanes new _ c.in-Some.awaits (sym c.in-Some.is ∙ e ∙ hidden-all (changes (compare_trees old new)))
    (sym c.only_transitions.ensures ∙ c.if-only_transitions.true)
