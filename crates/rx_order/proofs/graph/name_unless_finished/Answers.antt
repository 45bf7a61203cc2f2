use Rattle.std.proofs.Common.{length, refl, sym, ◌∙◌}
use Rattle.rx_order.proofs.Finishing.{finished-acyclic}
use Rattle.rx_order.proofs.graph.name_unless_finished.Goals as goal

pub returns-then-has : goal.returns-then-has
returns-then-has c = rw (finished-acyclic c.args.graph.now c.args.order.now c.requires.finishes_all c.args.number (sym c.has.ensures ∙ c.if-has.true) (length c.args.graph.now)) refl
