use Rattle.std.proofs.Common.{◌≡◌, ◌-◌, sym, ap, ◌∙◌, arith}
use Rattle.std.specs.Cmp.Lexicographic.{same_text}
use Rattle.rx_figures.specs.Costs.{cost_rounds, cost_round}
use Rattle.rx_figures.proofs.Rounds.{cost_rounds-settled, cost_rounds-step}
use Rattle.rx_figures.proofs.costs.settled.Goals as goal

pub returns-then-eq : goal.returns-then-eq
returns-then-eq c =
    let next : c.in_ok-next.next.items ≡ cost_round c.args.program.now c.loop-left.table.items =
    c.in_ok-next.ensures ∙ ap (λ t. cost_round c.args.program.now t) c.deref.ensures.value in
    let told : c.as_slice.result.now ≡ c.as_slice-in-loop-left.result.now = same_text _ _ (sym c.if-eq.true ∙ c.eq.ensures) in
    let same : c.in_ok-next.next.items ≡ c.loop-left.table.items =
    sym c.as_slice.ensures.value ∙ (told ∙ c.as_slice-in-loop-left.ensures.value) in
    sym (cost_rounds-settled c.loop-left.left c.args.program.now c.loop-left.table.items (sym next ∙ same)) ∙ c.loop-left.invariant

pub loop-left-preserved : goal.loop-left-preserved
loop-left-preserved c =
    let next : c.in_ok-next.next.items ≡ cost_round c.args.program.now c.loop-left.table.items =
    c.in_ok-next.ensures ∙ ap (λ t. cost_round c.args.program.now t) c.deref.ensures.value in
    ap (λ t. cost_rounds (c.loop-left.left - 1) c.args.program.now t) next
    ∙ (sym (cost_rounds-step c.loop-left.left c.args.program.now c.loop-left.table.items c.loop-left-test.true) ∙ c.loop-left.invariant)

pub returns : goal.returns
unfolding cost_rounds
returns c = let e : c.loop-left.left ≡ 0 = omega arith in rw e at c.loop-left.invariant
