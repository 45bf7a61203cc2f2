-- The words among the parts of a line.
use Rattle.std.proofs.Common.{◌==◌, not, Bool, List, map, length}
use Rattle.std.specs.List.{filter}
use Rattle.rx_base.specs.Values.{Text}

-- a part that is a word
abbrev pub is_word : Text → Bool
is_word w = not (length w == 0)

-- the words among parts
abbrev pub kept_words : {X : Type 0} → (X → Text) → List X → List Text
kept_words v ps = filter is_word (map v ps)
