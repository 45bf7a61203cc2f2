-- What reading a source to its end, and writing a whole piece, do.
use Rattle.std.specs.Prelude.{ℕ, ◌≡◌, ◌≤◌, ◌<◌, ◌+◌, List, length, ◌++◌}
use Rattle.std.specs.declared.option.Option.{Option}
use Rattle.std.specs.Io.KnownBytes.{Appends}
use Rattle.rx_io.specs.declared.whole.ReadError.{ReadError}
use Rattle.rx_io.specs.declared.whole.ReadError.TheVariants.{Failed, TooLong, OutOfMemory}

-- the bytes answered are the bytes taken, and no more than the limit
abbrev pub TookFor : ℕ → List ℕ → List ℕ → Type 0
TookFor limit bytes taken = (bytes ≡ taken) × (length taken ≤ limit)

-- how many bytes were taken if a source was not read to its end: one over the limit is too long, a fault comes before
abbrev pub Refuses : ℕ → ReadError → List ℕ → Type 0
Refuses limit TooLong taken = length taken ≡ limit + 1
Refuses limit Failed taken = length taken ≤ limit
Refuses limit OutOfMemory taken = length taken ≤ limit + 1

-- a beginning of a text, and not all of it
abbrev pub IsPartOf : (part whole : List ℕ) → Type 0
IsPartOf part whole = (lost : List ℕ) × (whole ≡ part ++ lost) × (0 < length lost)

-- known bytes grew by a beginning of the piece, and not all of it
abbrev pub AppendsPart : Option (List ℕ) → Option (List ℕ) → List ℕ → Type 0
AppendsPart old new piece = (part : List ℕ) × IsPartOf part piece × Appends old new part
