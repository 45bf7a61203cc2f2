use Rattle.std.proofs.Common.{◌≡◌, map, take}
use Rattle.rx_script.proofs.WordLemmas.{kept_words}
use Rattle.rx_script.proofs.words.words.Given as goal

-- the words so far are the parts so far that aren't empty
abbrev pub invariant-loop-part : goal.invariant-loop-part
invariant-loop-part l = map (λ w. w.now) l.words.items ≡ kept_words (λ p. p.now) (take l.part-index l.part-items)
