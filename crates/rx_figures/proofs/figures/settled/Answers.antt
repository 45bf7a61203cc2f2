use Rattle.std.proofs.Common.{◌≡◌, ◌-◌, sym, ap, ◌∙◌, arith, refl}
use Rattle.rx_figures.specs.Figures.{rounds, round_of}
use Rattle.rx_figures.proofs.Rounds.{rounds-settled, rounds-step}
use Rattle.rx_figures.proofs.figures.settled.Goals as goal

pub returns-then-are_same : goal.returns-then-are_same
returns-then-are_same c =
    let next : c.in_ok-next.next.items ≡ round_of c.args.program.now c.loop-left.table.items =
    c.in_ok-next.ensures ∙ ap (λ t. round_of c.args.program.now t) c.deref.ensures.value in
    let same : c.in_ok-next.next.items ≡ c.loop-left.table.items =
    sym c.deref-in-loop-left.ensures.value ∙ (c.if-are_same.ensures refl ∙ c.deref-in-loop-left-2.ensures.value) in
    sym (rounds-settled c.loop-left.left c.args.program.now c.loop-left.table.items (sym next ∙ same)) ∙ c.loop-left.invariant

pub loop-left-preserved : goal.loop-left-preserved
loop-left-preserved c =
    let next : c.in_ok-next.next.items ≡ round_of c.args.program.now c.loop-left.table.items =
    c.in_ok-next.ensures ∙ ap (λ t. round_of c.args.program.now t) c.deref.ensures.value in
    ap (λ t. rounds (c.loop-left.left - 1) c.args.program.now t) next
    ∙ (sym (rounds-step c.loop-left.left c.args.program.now c.loop-left.table.items c.loop-left-test.true) ∙ c.loop-left.invariant)

pub returns : goal.returns
unfolding rounds
returns c = let e : c.loop-left.left ≡ 0 = omega arith in rw e at c.loop-left.invariant
