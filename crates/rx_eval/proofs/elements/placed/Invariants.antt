use Rattle.std.proofs.Common.{◌≡◌, take}
use Rattle.rx_eval.proofs.elements.placed.Given as goal

-- the copies so far
abbrev pub invariant-loop-child : goal.invariant-loop-child
invariant-loop-child l = l.copies.items ≡ take l.child-index l.children
