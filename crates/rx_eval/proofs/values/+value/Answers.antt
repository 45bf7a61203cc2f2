use Rattle.std.proofs.Common.{◌≡◌, ◌≤◌, ◌+◌, ◌++◌, ◌∙◌, arith, get_or, sym, take, length, min, refl, length-take}
use Rattle.std.specs.List.{zip}
use Rattle.rx_rules.specs.Versions.{width}
use Rattle.rx_meaning.specs.Expressions.{values, nested_calls}
use Rattle.rx_ast.specs.Syntax.{exprs_of, functions}
use Rattle.rx_ast.specs.ExprView.{links_of}
use Rattle.rx_eval.proofs.Sizes.{expr_size, exprs_size, links_size, widest, function_size}
use Rattle.rx_eval.proofs.Naming.{named-contained}
use Rattle.rx_eval.proofs.Calls.{operand_size, exprs_size-take, exprs_size-push, size-contained, room-more, call-answer, bound_more}
use Rattle.rx_eval.proofs.values.+value.Goals as goal

pub chained-value_at_once-operand-requires : goal.chained-value_at_once-operand-requires
chained-value_at_once-operand-requires t c =
    let inside : expr_size (get_or c.args.links.now c.loop-link.link-index c.link-item.result).operand ≤ links_size (links_of c.args.links.now) =
    operand_size c.args.links.now c.loop-link.link-index c.link-item.result c.loop-link-test.true in
    let below : expr_size c.link-item.result.operand ≤ links_size (links_of c.args.links.now) = rw (sym c.link-item.is) at inside
    in (omega (arith, c.decreases, below), tt)

pub call-with_arguments-requires : goal.call-with_arguments-requires
call-with_arguments-requires t c =
    let es = c.args.arguments.now in
    let n = c.min-count.result in
    let count : n ≡ min (length c.in-Some.function.now.parameters) (length es) = rw (← c.parameters.ensures) c.min-count.ensures in (
      omega (arith, c.decreases, exprs_size-take es n),
      (
        omega arith,
        (
          named-contained c.args.checked.now c.args.name.now c.in-Some.function.now c.in-Some.ensures,
          omega (arith, count, length-take n es),
        ),
      ),
    )

pub call-returns-in-Some : goal.call-returns-in-Some
call-returns-in-Some t c =
    let count : c.min-count.result ≡ min (length c.in-Some.function.now.parameters) (length c.args.arguments.now) = rw (← c.parameters.ensures) c.min-count.ensures in
    rw c.new.ensures at c.with_arguments.ensures
    ∙ call-answer c.args.nesting c.args.checked.now c.args.name.now c.in-Some.function.now c.args.env.now c.args.arguments.now (take c.min-count.result c.args.arguments.now) c.min-count.result
    (omega arith) c.in-Some.ensures count refl

pub with_arguments-after_lines-requires : goal.with_arguments-after_lines-requires
with_arguments-after_lines-requires t c =
    let f = c.args.function.now in
    let fs = functions c.args.checked.now in
    let small : function_size f ≤ widest fs = size-contained fs f c.requires.declared in
    (rw (c.lines.ensures, c.answer.ensures) (omega (arith, c.decreases, small, room-more c.args.nesting fs c.requires.nests)), tt)

pub with_arguments-value_at_once-argument-requires : goal.with_arguments-value_at_once-argument-requires
with_arguments-value_at_once-argument-requires t c =
    let size : exprs_size (exprs_of c.args.arguments.now) ≡ exprs_size (exprs_of c.in-Some.before.now) + 1 + expr_size c.in-Some.argument.now =
    rw c.in-Some.ensures.cases.0 (exprs_size-push c.in-Some.before.now c.in-Some.argument.now) in
    (omega (arith, c.decreases, size), tt)

pub with_arguments-with_arguments-requires : goal.with_arguments-with_arguments-requires
with_arguments-with_arguments-requires t c =
    let size : exprs_size (exprs_of c.args.arguments.now) ≡ exprs_size (exprs_of c.in-Some.before.now) + 1 + expr_size c.in-Some.argument.now =
    rw c.in-Some.ensures.cases.0 (exprs_size-push c.in-Some.before.now c.in-Some.argument.now) in
    (omega (arith, c.decreases, size), (c.requires.nests, (c.requires.declared, omega (arith, c.requires.within, c.in-Some.ensures.cases.1))))

pub with_arguments-returns-in-Some : goal.with_arguments-returns-in-Some
with_arguments-returns-in-Some t c =
    let w = width c.args.checked.now in
    let calls = nested_calls c.args.nesting c.args.checked.now in
    let f = c.args.function.now in
    let x = c.index-parameters-before.result in
    let more : zip (take (length c.args.arguments.now) f.parameters) (values w calls c.args.env.now (exprs_of c.args.arguments.now)) ++ c.args.bound.now
    ≡ zip (take (length c.in-Some.before.now) f.parameters) (values w calls c.args.env.now (exprs_of c.in-Some.before.now)) ++ c.with-bound.result =
    rw (c.with-bound.ensures, c.value_at_once-argument.ensures)
    (bound_more w calls c.args.env.now f.parameters c.args.arguments.now c.in-Some.before.now c.in-Some.argument.now x c.args.bound.now c.in-Some.ensures.cases.0 c.requires.within
    (rw (← c.parameters.ensures) c.index-parameters-before.is)) in
    rw more c.with_arguments.ensures
