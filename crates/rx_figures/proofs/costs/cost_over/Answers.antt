use Rattle.std.proofs.Common.{map, sym, ap, ◌∙◌}
use Rattle.std.specs.Prelude.{slice_index}
use Rattle.rx_figures.specs.Costs.{cost_limit, first_over, declaration_cost, cost_from}
use Rattle.rx_figures.proofs.costs.cost_over.Goals as goal

pub returns : goal.returns
unfolding declaration_cost
returns c =
    c.first_over.ensures
    ∙ (ap (λ t. first_over cost_limit (map (cost_from (slice_index t) c.args.program.now) c.args.program.now.declarations)) c.deref.ensures.value
    ∙ ap (λ b. first_over cost_limit (map (cost_from b c.args.program.now) c.args.program.now.declarations)) (sym c.in_ok-costs.ensures))
