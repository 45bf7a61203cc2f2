use Rattle.render_laws.proofs.SettledOld.{start_settled, unit_settled, take_settled, attempt_settled}
use Rattle.render_laws.proofs.laws.old_nodes_are_settled.Goals as goal

pub returns : goal.returns
returns c = record { start = start_settled; unit = unit_settled; takes_over = take_settled; skips_attempt = attempt_settled }
