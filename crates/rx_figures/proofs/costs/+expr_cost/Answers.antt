use Rattle.std.proofs.Common.{◌≤◌, ◌-◌, arith, get_or, sym}
use Rattle.rx_ast.specs.Syntax.{exprs_of}
use Rattle.rx_ast.specs.ExprView.{links_of}
use Rattle.rx_ast.specs.Depth.{expr_depth, exprs_depth, links_depth}
use Rattle.rx_mentions.proofs.Depths.{expr_depth-get_or, operand_depth-get_or}
use Rattle.rx_figures.proofs.costs.+expr_cost.Goals as goal

pub exprs-expr-requires : goal.exprs-expr-requires
exprs-expr-requires t c =
    let below : expr_depth c.index-exprs-at.result ≤ exprs_depth (exprs_of c.args.exprs.now) =
    rw c.index-exprs-at.is (expr_depth-get_or c.args.exprs.now (c.loop-at.at - 1) c.index-exprs-at.result (omega arith))
    in (omega (arith, c.decreases, below), tt)

pub links-expr-requires : goal.links-expr-requires
links-expr-requires t c =
    let inside : expr_depth (get_or c.args.links.now (c.loop-at.at - 1) c.index-links-at.result).operand ≤ links_depth (links_of c.args.links.now) =
    operand_depth-get_or c.args.links.now (c.loop-at.at - 1) c.index-links-at.result (omega arith) in
    let below : expr_depth c.index-links-at.result.operand ≤ links_depth (links_of c.args.links.now) = rw (sym c.index-links-at.is) at inside
    in (omega (arith, c.decreases, below, inside), tt)
