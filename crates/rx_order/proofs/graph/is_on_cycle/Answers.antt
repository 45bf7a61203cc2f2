use Rattle.std.proofs.Common.{length, false, sym, ap, ◌∙◌}
use Rattle.std.specs.Prelude.{slice_index_or}
use Rattle.rx_order.proofs.Rounds.{leads_to-rounds}
use Rattle.rx_order.proofs.graph.is_on_cycle.Goals as goal

pub returns : goal.returns
returns c =
    c.known.ensures
    ∙ (ap (λ t. slice_index_or t c.args.number false) (c.deref.ensures.value ∙ c.in_ok-table.ensures)
    ∙ sym (leads_to-rounds c.args.graph.now (length c.args.graph.now) c.args.number c.args.number))
