-- The generated program meets every check.
use Rattle.std.proofs.Common.{◌≡◌, refl, None}
use Rattle.rx_rules.specs.Bounds.{body_by, node_bound, depth_bound, root_waits}
use Rattle.rx_order.specs.Graphs.{leads_to, lead_rounds}
use Rattle.rx_mentions.specs.Mentions.{mentions}
use Rattle.rx_figures.specs.Costs.{function_cost, declaration_cost, cost_rounds}
use Rattle.rx_figures.specs.Figures.{rounds}
use Rattle.rx_check.specs.Refusals.{refusal_of}
use Rattle.rx_gen.specs.Meant.{generated_program}

pub none_refused : refusal_of generated_program ≡ None
unfolding refusal_of generated_program mentions body_by node_bound depth_bound root_waits leads_to lead_rounds function_cost declaration_cost cost_rounds rounds
none_refused = refl
