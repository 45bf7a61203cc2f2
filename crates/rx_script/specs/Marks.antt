-- Whole lines of which none parts an input.
use Rattle.std.specs.Prelude.{ℕ, ◌≡◌, false, List, [], ◌∷◌, ◌++◌}
use Rattle.std.specs.Str.Lines.{strip_carriage_return}
use Rattle.rx_script.specs.Input.{is_mark}
use Rattle.rx_script.specs.Pieces.{HasNoLineEnd}

-- the text is whole lines, each with its line end, and none of them is exactly `---`
pub data AreLines : List ℕ → Type 0 where
  none : AreLines []
  then : (line rest : List ℕ) → HasNoLineEnd line → is_mark (strip_carriage_return line) ≡ false → AreLines rest → AreLines (line ++ 10 ∷ rest)
