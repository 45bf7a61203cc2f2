use Rattle.std.proofs.Common.{arith, sym, ap, ◌∙◌}
use Rattle.rx_base.specs.Awaits.{awaits_where, union}
use Rattle.rx_elem.specs.Trees.{awaits_in, is_hidden}
use Rattle.rx_spots.specs.Waits.{waits_in}
use Rattle.rx_spots.proofs.Lists.{height-get}
use Rattle.rx_spots.proofs.Waiting.{node_waits, hidden_waits, waits-more, waits-vacant, waits-end, waits-start}
use Rattle.rx_spots.proofs.Nothing.{nothing_awaited}
use Rattle.rx_spots.proofs.boundaries.+awaiting.Goals as goal
use Rattle.rx_spots.proofs.boundaries.+awaiting.Goals.{awaits_in-in-Some, awaits_in-in_default}

pub awaits_from-returns-then-not-hides : goal.awaits_from-returns-then-not-hides
awaits_from-returns-then-not-hides t c = c.none.ensures ∙ nothing_awaited c.args.node.now (sym c.hides.ensures ∙ c.if-not-hides.true)

pub awaits_from-returns-then-hides : goal.awaits_from-returns-then-hides
awaits_from-returns-then-hides t c =
    c.union.ensures
    ∙ hidden_waits c.args.node.now _ _ (c.own_awaits-own.ensures ∙ ap awaits_in c.mark.ensures)
    (sym (ap is_hidden c.mark-2.ensures) ∙ sym c.hides-2.ensures ∙ c.if-hides.true)
    (c.awaits_in-behind.ensures ∙ ap (λ f. awaits_where (waits_in f)) c.fallback.ensures.all)

pub awaits_from-returns : goal.awaits_from-returns
awaits_from-returns t c =
    c.union-3.ensures ∙ ap (λ x. union x c.awaits_in-behind.result) c.union-2.ensures
    ∙ node_waits c.args.node.now _ _ _ (c.own_awaits-own.ensures ∙ ap awaits_in c.mark.ensures)
    (sym (ap is_hidden c.mark-2.ensures) ∙ sym c.hides-2.ensures ∙ c.if-hides.false)
    (c.awaits_in.ensures ∙ ap (λ f. awaits_where (waits_in f)) c.children.ensures.all)
    (c.awaits_in-behind.ensures ∙ ap (λ f. awaits_where (waits_in f)) c.fallback.ensures.all)

pub awaits_in-awaits_from-requires : goal.awaits_in-awaits_from-requires
awaits_in-awaits_from-requires t c =
    (omega (arith, height-get c.args.places.now c.loop-place.place-index c.place-item.result c.in-Some.node c.loop-place-test.true c.place-item.is c.in-Some.is), tt)

pub awaits_in-loop-place-init : goal.awaits_in-loop-place-init
awaits_in-loop-place-init t c = waits-start c.args.places.now _ c.none-awaits.ensures

pub awaits_in-loop-place-preserved : goal.awaits_in-loop-place-preserved
awaits_in-loop-place-preserved t c =
    elim c.match-place.branch [
      | awaits_in-in-Some w ↦
          waits-more _ c.args.places.now c.loop-place.place-index c.place-item.result w.in-Some.node c.loop-place.awaits w.awaits_from.result _ c.loop-place-test.true c.place-item.is w.in-Some.is
          w.awaits_from.ensures (w.awaits-is ∙ w.union-awaits.ensures) c.loop-place.invariant
      | awaits_in-in_default w ↦
          waits-vacant _ c.args.places.now c.loop-place.place-index c.place-item.result c.loop-place.awaits _ c.loop-place-test.true c.place-item.is w.in_default.is w.awaits-is c.loop-place.invariant
    ]

pub awaits_in-returns : goal.awaits_in-returns
awaits_in-returns t c = waits-end c.args.places.now _ _ c.loop-place-test.false c.loop-place.invariant
