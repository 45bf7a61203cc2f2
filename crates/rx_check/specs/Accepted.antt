-- What is known of a program that is accepted.
use Rattle.std.specs.Prelude.{◌≡◌, ◌≤◌, true, [], None}
use Rattle.rx_ast.specs.Syntax.{Program}
use Rattle.rx_rules.specs.Bounds.{node_bound}
use Rattle.rx_rules.specs.Versions.{node_limit}
use Rattle.rx_check.specs.Checks.{repeats, unknowns, misfits, function_cycles, component_cycles, outside_uses, outside_throws, is_rooted, count_over}
use Rattle.rx_figures.specs.Costs.{cost_over}
use Rattle.rx_mentions.specs.declared.count.Count.{Count}

-- the program meets every check
pub record IsAccepted (p : Program) : Type 0 where
  pub introduced_once : repeats p ≡ []
  pub all_known : unknowns p ≡ []
  pub all_fit : misfits p ≡ []
  pub no_function_cycle : function_cycles p ≡ []
  pub no_component_cycle : component_cycles p ≡ []
  pub no_outside_use : outside_uses p ≡ []
  pub no_outside_throw : outside_throws p ≡ []
  pub rooted : is_rooted p ≡ true
  pub within_counts : (w : Count) → count_over p w ≡ None
  pub within_nodes : node_bound p ≤ node_limit p
  pub within_cost : cost_over p ≡ None
