use Rattle.std.proofs.Common.{◌≡◌, length, drop}
use Rattle.rx_elem.specs.Trees.{forest}
use Rattle.rx_fresh.specs.Texts.{AreSameTexts}
use Rattle.rx_fresh.proofs.lists.same_texts.Given as goal

-- the lists are as long, and are the same texts if they are from here on
abbrev pub invariant-loop-place : goal.invariant-loop-place
invariant-loop-place l = (length l.old ≡ length l.elements) × (AreSameTexts (forest (drop l.place l.old)) (drop l.place l.elements) → AreSameTexts (forest l.old) l.elements)
