use Rattle.rx_changes.proofs.own.add_lines_of.Goals as goal

pub returns : goal.returns
returns c = λ i. record { destroyed = c.in_ok-add_own_destroyed.ensures i; created = c.in_ok-add_own_created.ensures i }
