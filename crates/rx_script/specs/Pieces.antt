-- A text before and behind its first line end.
use Rattle.std.specs.Prelude.{ℕ, ◌≡◌, ◌≢◌, ◌<◌, List, [], ◌∷◌, ◌++◌, length, slice_index}
use Rattle.std.specs.List.{slice_split}
use Rattle.rx_script.specs.Input.{is_line_end}

-- the first place of a byte in a text
pub record IsFirst (byte : ℕ) (text : List ℕ) (at : ℕ) : Type 0 where
  pub within : at < length text
  pub here : slice_index text at ≡ byte
  pub first : (k : ℕ) → k < at → slice_index text k ≢ byte

-- a text without this byte
abbrev pub HasNone : ℕ → List ℕ → Type 0
HasNone byte text = (k : ℕ) → k < length text → slice_index text k ≢ byte

-- the first line end of a text
abbrev pub IsLineEnd : List ℕ → ℕ → Type 0
IsLineEnd text at = IsFirst 10 text at

-- a text without a line end
abbrev pub HasNoLineEnd : List ℕ → Type 0
HasNoLineEnd text = HasNone 10 text

-- the text is this piece, a line end, and what stands behind it
pub record IsCut (text piece after : List ℕ) : Type 0 where
  pub whole : text ≡ piece ++ 10 ∷ after
  pub pieces : slice_split is_line_end text ≡ piece ∷ slice_split is_line_end after

-- the text is this piece, without a line end
pub record IsLast (text piece : List ℕ) : Type 0 where
  pub whole : piece ≡ text
  pub pieces : slice_split is_line_end text ≡ piece ∷ []
