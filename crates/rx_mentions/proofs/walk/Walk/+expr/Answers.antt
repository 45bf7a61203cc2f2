use Rattle.std.proofs.Common.{◌≤◌, arith}
use Rattle.rx_ast.specs.Syntax.{exprs_of}
use Rattle.rx_ast.specs.Depth.{expr_depth, links_depth, exprs_depth}
use Rattle.rx_ast.specs.ExprView.{links_of}
use Rattle.rx_mentions.proofs.Depths.{expr_depth-get_or, operand_depth-get_or}
use Rattle.rx_mentions.proofs.walk.Walk.+expr.Goals as goal

pub exprs-expr-requires : goal.exprs-expr-requires
exprs-expr-requires t c =
    let below : expr_depth c.expr-item.result ≤ exprs_depth (exprs_of c.args.exprs.now) =
    rw c.expr-item.is (expr_depth-get_or c.args.exprs.now c.loop-expr.expr-index c.expr-item.result c.loop-expr-test.true)
    in (omega (arith, c.decreases, below), tt)

pub links-expr-requires : goal.links-expr-requires
links-expr-requires t c =
    let below : expr_depth c.link-item.result.operand ≤ links_depth (links_of c.args.links.now) =
    rw c.link-item.is (operand_depth-get_or c.args.links.now c.loop-link.link-index c.link-item.result c.loop-link-test.true)
    in (omega (arith, c.decreases, below), tt)
