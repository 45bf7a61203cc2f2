use Rattle.std.proofs.Common.{◌≡◌, ◌+◌, ◌++◌, Some, None, arith, ap, ◌∙◌, refl, length}
use Rattle.std.specs.Prelude.{filter_map}
use Rattle.std.specs.List.{zip}
use Rattle.rx_rules.specs.Names.{integer_in}
use Rattle.rx_eval.proofs.Bodies.{names_before, count_with, prop_bound}
use Rattle.rx_eval.proofs.body.+with_props.Goals as goal

pub with_props-requires : goal.with_props-requires
with_props-requires t c =
    let none : integer_in c.in-Some.parameter.now ≡ None = rw (← c.parameter.view_is, c.in-Children.is) refl in
    let names : filter_map integer_in c.args.parameters.now ≡ filter_map integer_in c.in-Some.before.now =
    names_before c.args.parameters.now c.in-Some.before.now c.in-Some.parameter.now c.in-Some.ensures.cases.0 none in
    (omega (arith, c.decreases, c.in-Some.ensures.cases.1), (c.requires.short, c.requires.given ∙ ap length names))

pub unreachable-requires : goal.unreachable-requires
unreachable-requires t c =
    let some : integer_in c.in-Some.parameter.now ≡ Some c.in-Integer.name = rw (← c.parameter.view_is, c.in-Integer.is) refl in
    let more : length (filter_map integer_in c.args.parameters.now) ≡ length (filter_map integer_in c.in-Some.before.now) + 1 =
    count_with c.args.parameters.now c.in-Some.before.now c.in-Some.parameter.now c.in-Integer.name c.in-Some.ensures.cases.0 some in
    omega (arith, more, c.requires.given, c.in-None-split_last.ensures.cases)

pub with_props-requires-in-Some-split_last : goal.with_props-requires-in-Some-split_last
with_props-requires-in-Some-split_last t c =
    let some : integer_in c.in-Some.parameter.now ≡ Some c.in-Integer.name = rw (← c.parameter.view_is, c.in-Integer.is) refl in
    let more : length (filter_map integer_in c.args.parameters.now) ≡ length (filter_map integer_in c.in-Some.before.now) + 1 =
    count_with c.args.parameters.now c.in-Some.before.now c.in-Some.parameter.now c.in-Integer.name c.in-Some.ensures.cases.0 some in (
      omega (arith, c.decreases, c.in-Some.ensures.cases.1),
      (c.requires.short, omega (arith, more, c.requires.given, c.in-Some-split_last.ensures.cases.1)),
    )

pub returns-in-Children : goal.returns-in-Children
returns-in-Children t c =
    let none : integer_in c.in-Some.parameter.now ≡ None = rw (← c.parameter.view_is, c.in-Children.is) refl in
    let names : filter_map integer_in c.args.parameters.now ≡ filter_map integer_in c.in-Some.before.now =
    names_before c.args.parameters.now c.in-Some.before.now c.in-Some.parameter.now c.in-Some.ensures.cases.0 none in
    rw names c.with_props.ensures

pub returns-in-Some-split_last : goal.returns-in-Some-split_last
returns-in-Some-split_last t c =
    let some : integer_in c.in-Some.parameter.now ≡ Some c.in-Integer.name = rw (← c.parameter.view_is, c.in-Integer.is) refl in
    let more : length (filter_map integer_in c.args.parameters.now) ≡ length (filter_map integer_in c.in-Some.before.now) + 1 =
    count_with c.args.parameters.now c.in-Some.before.now c.in-Some.parameter.now c.in-Integer.name c.in-Some.ensures.cases.0 some in
    let same : length (filter_map integer_in c.in-Some.before.now) ≡ length c.in-Some-split_last.others.now =
    omega (arith, more, c.requires.given, c.in-Some-split_last.ensures.cases.1) in
    let bound : zip (filter_map integer_in c.args.parameters.now) c.args.props.now ++ c.args.bound.now ≡ zip (filter_map integer_in c.in-Some.before.now) c.in-Some-split_last.others.now ++ c.with-bound.result =
    rw c.with-bound.ensures
    (prop_bound c.args.parameters.now c.in-Some.before.now c.in-Some.parameter.now c.in-Integer.name c.args.props.now c.in-Some-split_last.others.now c.in-Some-split_last.value.now c.args.bound.now
    c.in-Some.ensures.cases.0 some c.in-Some-split_last.ensures.cases.0 same) in
    rw bound c.with_props-in-Some-split_last.ensures
