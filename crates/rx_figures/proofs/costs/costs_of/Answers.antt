use Rattle.std.proofs.Common.{◌≡◌, ◌≤◌, ◌<◌, ℕ, true, [], subst, sym, ap, ◌∙◌, arith, length, refl}
use Rattle.std.specs.Prelude.{slice_index}
use Rattle.std.proofs.lemmas.List.{length-map}
use Rattle.rx_ast.specs.Syntax.{functions}
use Rattle.rx_order.specs.Graphs.{is_among}
use Rattle.rx_figures.specs.Costs.{cost_rounds}
use Rattle.rx_figures.proofs.Rounds.{costs-rounds}
use Rattle.rx_figures.proofs.Ordered.{costs-all}
use Rattle.rx_figures.proofs.costs.costs_of.Goals as goal

pub returns-then-is_whole : goal.returns-then-is_whole
returns-then-is_whole c =
    let p = c.args.program.now in
    let few : length c.args.order.now ≤ length (functions p) = subst (λ (n : ℕ). length c.args.order.now ≤ n) (length-map (functions p) _) c.requires.few in
    let whole : (x : ℕ) → x < length (functions p) → is_among c.args.order.now x ≡ true =
    λ x h. c.if-is_whole.ensures refl x (omega (arith, h, c.function_count-count.ensures)) in
    costs-all p c.in_ok-finished.finished.items c.args.order.now c.in_ok-finished.ensures.costs c.in_ok-finished.ensures.sized few whole

pub returns : goal.returns
returns c =
    let p = c.args.program.now in
    costs-rounds (length (functions p)) p
    ∙ ap slice_index (sym (c.in_ok-table.ensures ∙ ap (λ n. cost_rounds n p []) c.function_count-count.ensures))
