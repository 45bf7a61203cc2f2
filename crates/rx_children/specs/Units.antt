-- What the next unit of a render does.
use Rattle.rx_meaning.specs.Cursor.{Cursor, at_place, at_end, ended}

-- the next unit begins a place
abbrev pub IsPlace : Cursor → Type 0
IsPlace (at_place levels fs cs e old) = Unit {0}
IsPlace (at_end levels fs o done) = ⊥
IsPlace (ended p) = ⊥

-- the next unit completes a node
abbrev pub IsEnd : Cursor → Type 0
IsEnd (at_place levels fs cs e old) = ⊥
IsEnd (at_end levels fs o done) = Unit {0}
IsEnd (ended p) = ⊥
