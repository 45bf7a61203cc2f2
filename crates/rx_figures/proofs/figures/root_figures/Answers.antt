use Rattle.std.proofs.Common.{◌≤◌, ℕ, [], subst, sym, ap, ◌∙◌, arith, length}
use Rattle.std.proofs.lemmas.List.{length-map}
use Rattle.rx_ast.specs.Syntax.{components}
use Rattle.rx_rules.specs.Bounds.{body_by}
use Rattle.rx_figures.specs.Figures.{figures, rounds, known_in, nesting_levels}
use Rattle.rx_figures.proofs.Rounds.{body_by-rounds}
use Rattle.rx_figures.proofs.figures.root_figures.Goals as goal

pub returns-then-has : goal.returns-then-has
returns-then-has c =
    let p = c.args.program.now in
    let few : length c.args.order.now ≤ length (components p) = subst (λ (n : ℕ). length c.args.order.now ≤ n) (length-map (components p) _) c.requires.few in
    let deep : length c.args.order.now ≤ nesting_levels p = omega (arith, few) in
    c.known.ensures
    ∙ (ap (λ t. known_in t c.component_number-root.result) c.deref.ensures.value
    ∙ (sym (c.in_ok-finished.ensures c.component_number-root.result (nesting_levels p) (sym c.has.ensures ∙ c.if-has.true) deep)
    ∙ ap (body_by (figures c.args.program.now) (nesting_levels p) p) c.component_number-root.ensures))

pub returns : goal.returns
returns c =
    let p = c.args.program.now in
    c.known-2.ensures
    ∙ (ap (λ t. known_in t c.component_number-root.result) (c.deref-2.ensures.value ∙ (c.in_ok-table.ensures ∙ ap (λ n. rounds n p []) c.nesting_levels.ensures))
    ∙ (ap (λ n. known_in (rounds (nesting_levels p) p []) n) c.component_number-root.ensures
    ∙ sym (body_by-rounds (nesting_levels p) p _)))
