use Rattle.std.proofs.Common.{◌≡◌, ◌-◌, sym, ap, ◌∙◌, arith, refl}
use Rattle.rx_order.specs.Graphs.{lead_rounds, lead_round}
use Rattle.rx_order.proofs.Rounds.{lead_rounds-settled, lead_rounds-step}
use Rattle.rx_order.proofs.graph.settled.Goals as goal

pub returns-then-are_same : goal.returns-then-are_same
returns-then-are_same c =
    let next : c.in_ok-next.next.items ≡ lead_round c.args.graph.now c.args.target c.loop-left.table.items =
    c.in_ok-next.ensures ∙ ap (λ t. lead_round c.args.graph.now c.args.target t) c.deref.ensures.value in
    let same : c.in_ok-next.next.items ≡ c.loop-left.table.items =
    sym c.deref-in-loop-left.ensures.value ∙ (c.if-are_same.ensures refl ∙ c.deref-in-loop-left-2.ensures.value) in
    sym (lead_rounds-settled c.args.graph.now c.args.target c.loop-left.left c.loop-left.table.items (sym next ∙ same)) ∙ c.loop-left.invariant

pub loop-left-preserved : goal.loop-left-preserved
loop-left-preserved c =
    let next : c.in_ok-next.next.items ≡ lead_round c.args.graph.now c.args.target c.loop-left.table.items =
    c.in_ok-next.ensures ∙ ap (λ t. lead_round c.args.graph.now c.args.target t) c.deref.ensures.value in
    ap (λ t. lead_rounds c.args.graph.now c.args.target (c.loop-left.left - 1) t) next
    ∙ (sym (lead_rounds-step c.args.graph.now c.args.target c.loop-left.left c.loop-left.table.items c.loop-left-test.true) ∙ c.loop-left.invariant)

pub returns : goal.returns
unfolding lead_rounds
returns c = let e : c.loop-left.left ≡ 0 = omega arith in rw e at c.loop-left.invariant
