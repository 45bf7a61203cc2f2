use Rattle.std.proofs.Common.{◌-◌, ◌≤◌, length, take, drop, arith}
use Rattle.rx_ast.specs.Syntax.{exprs_of}
use Rattle.rx_ast.specs.Depth.{expr_depth, links_depth, exprs_depth}
use Rattle.rx_ast.specs.ExprView.{links_of}
use Rattle.rx_print.proofs.Depths.{expr_depth-get_or, exprs_depth-take-drop, operand_depth-get_or}
use Rattle.rx_print.proofs.printer.Printer.+expr.Goals as goal

pub exprs-expr-requires-in-loop-expr : goal.exprs-expr-requires-in-loop-expr
exprs-expr-requires-in-loop-expr t c =
    let others = take (length c.args.exprs.now - 1) (drop 1 c.args.exprs.now) in
    let below : expr_depth c.expr-item.result ≤ exprs_depth (exprs_of others) =
    rw c.expr-item.is (expr_depth-get_or others c.loop-expr.expr-index c.expr-item.result c.loop-expr-test.true)
    in (omega (arith, c.decreases, below, exprs_depth-take-drop (length c.args.exprs.now - 1) c.args.exprs.now), tt)

pub links-expr-requires : goal.links-expr-requires
links-expr-requires t c =
    let below : expr_depth c.link-item.result.operand ≤ links_depth (links_of c.args.links.now) =
    rw c.link-item.is (operand_depth-get_or c.args.links.now c.loop-link.link-index c.link-item.result c.loop-link-test.true)
    in (omega (arith, c.decreases, below), tt)
