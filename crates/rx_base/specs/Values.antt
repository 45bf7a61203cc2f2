-- The integers of a program: signed numbers of a fixed width, which wrap.
use Rattle.std.specs.Prelude.{ℕ, List, ◌++◌, ℤ, pos, ◌^◌, unsigned_abs, codes}
use Rattle.std.specs.Int.{Width, cast_signed, int_rem_euclid}
use mir.Val.{bits}

-- a text, as its bytes
abbrev pub Text : Type 0
Text = List ℕ

-- a text between quotes, unchanged
abbrev pub in_quotes : Text → Text
in_quotes t = codes "\"" ++ t ++ codes "\""

-- a name of the program
abbrev pub Name : Type 0
Name = Text

-- a number modulo two to the width, read as signed
abbrev pub wrap : Width → ℤ → ℤ
wrap w x = cast_signed w (unsigned_abs (int_rem_euclid x (pos (2 ^ bits w))))
