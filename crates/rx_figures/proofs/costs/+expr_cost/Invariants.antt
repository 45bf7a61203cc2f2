use Rattle.std.proofs.Common.{◌≡◌, ◌+◌, ◌*◌, ◌≤◌, length, drop}
use Rattle.std.specs.Prelude.{slice_index}
use Rattle.rx_ast.specs.Syntax.{exprs_of}
use Rattle.rx_ast.specs.ExprView.{links_of}
use Rattle.rx_ast.specs.Depth.{expr_depth, links_depth, exprs_depth}
use Rattle.rx_figures.specs.Costs.{links_cost, exprs_cost}
use Rattle.rx_figures.proofs.costs.+expr_cost.Given as goal

abbrev pub decreases-expr : goal.decreases-expr
decreases-expr l = 2 * expr_depth l.expr.now

abbrev pub decreases-links : goal.decreases-links
decreases-links l = 2 * links_depth (links_of l.links.now) + 1

abbrev pub decreases-exprs : goal.decreases-exprs
decreases-exprs l = 2 * exprs_depth (exprs_of l.exprs.now) + 1

-- the sum is that of what was passed, from the end on
abbrev pub invariant-links-loop-at : goal.invariant-links-loop-at
invariant-links-loop-at l =
    record {
      within : l.at ≤ length l.links;
      total : l.sum ≡ links_cost (slice_index l.costs) l.program (links_of (drop l.at l.links));
    }

abbrev pub decreases-links-loop-at : goal.decreases-links-loop-at
decreases-links-loop-at l = l.at

abbrev pub invariant-exprs-loop-at : goal.invariant-exprs-loop-at
invariant-exprs-loop-at l =
    record {
      within : l.at ≤ length l.exprs;
      total : l.sum ≡ exprs_cost (slice_index l.costs) l.program (exprs_of (drop l.at l.exprs));
    }

abbrev pub decreases-exprs-loop-at : goal.decreases-exprs-loop-at
decreases-exprs-loop-at l = l.at
