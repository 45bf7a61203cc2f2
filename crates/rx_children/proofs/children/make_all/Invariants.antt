use Rattle.std.proofs.Common.{◌≤◌, length}
use Rattle.rx_children.specs.Children.{HasMadeFrom}
use Rattle.rx_children.proofs.children.make_all.Given as goal

-- the children from the place on are made
abbrev pub invariant-making : goal.invariant-making
invariant-making l = record { within : l.place ≤ length l.elements; made : HasMadeFrom l.origin l.place l.initial.tree l.tree l.at l.elements l.olds }

abbrev pub decreases-making : goal.decreases-making
decreases-making l = l.place
