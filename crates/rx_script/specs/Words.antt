-- Lines of a script, their words, and the forms of names and numbers.
use Rattle.std.specs.Prelude.{ℕ, zero, suc, ◌+◌, ◌-◌, ◌*◌, Bool, false, not, ◌&&◌, ◌||◌, ◌==◌, nat_lt, slice_index, List, [], ◌∷◌, ℤ, pos, negsuc, Option, Some, None, length, fold, filter, option_map, option_and_then, if◌then◌else◌}
use Rattle.std.specs.List.{list_all, slice_split}
use Rattle.std.specs.Str.Lines.{strip_carriage_return}
use Rattle.std.specs.Char.{is_ascii_digit, is_ascii_uppercase, is_ascii_lowercase, is_ascii_alphanumeric}
use Rattle.rx_base.specs.Values.{Text, Name}
use Rattle.rx_script.specs.Input.{is_line_end}

-- what parts words: a space or a tab
abbrev pub is_blank : ℕ → Bool
is_blank b = b == 32 || b == 9

-- a text of no byte
abbrev pub is_empty : Text → Bool
is_empty t = length t == 0

-- the pieces between line ends, each without a carriage return at its end. An empty last piece is no line.
abbrev pub whole_lines : List Text → List Text
whole_lines [] = []
whole_lines (x ∷ []) = if is_empty x then [] else strip_carriage_return x ∷ []
whole_lines (x ∷ y ∷ more) = strip_carriage_return x ∷ whole_lines (y ∷ more)

-- the lines of a script
abbrev pub lines_of : List ℕ → List Text
lines_of bytes = whole_lines (slice_split is_line_end bytes)

-- the words of a line
abbrev pub words_of : Text → List Text
words_of line = filter (λ w. not (is_empty w)) (slice_split is_blank line)

-- a number's value, from its digits
abbrev pub value_of : Text → ℕ
value_of digits = fold (λ n d. 10 * n + (d - 48)) 0 digits

-- one digit, or more that don't begin with 0
abbrev pub is_decimal : Text → Bool
is_decimal w = list_all is_ascii_digit w && (length w == 1 || (nat_lt 1 (length w) && not (slice_index w 0 == 48)))

-- a number without a sign
abbrev pub natural_of : Text → Option ℕ
natural_of w = if is_decimal w then Some (value_of w) else None

-- the number below zero; there is no `-0`
abbrev pub opposite : ℕ → Option ℤ
opposite zero = None
opposite (suc n) = Some (negsuc n)

-- a number that may have a sign
abbrev pub integer_of : Text → Option ℤ
integer_of [] = None
integer_of (b ∷ w) = if b == 45 then option_and_then opposite (natural_of w) else option_map pos (natural_of (b ∷ w))

-- a letter, a digit, `_` or `$`
abbrev pub is_word_byte : ℕ → Bool
is_word_byte b = is_ascii_alphanumeric b || (b == 95 || b == 36)

-- what the name of a hook or a function may begin with
abbrev pub is_lower_start : ℕ → Bool
is_lower_start b = is_ascii_lowercase b || (b == 95 || b == 36)

-- a name is a byte that may begin it, and then bytes of a word
abbrev pub is_name : (ℕ → Bool) → Text → Bool
is_name is_start [] = false
is_name is_start (b ∷ w) = is_start b && list_all is_word_byte w

-- the name of a component
abbrev pub upper_of : Text → Option Name
upper_of w = if is_name is_ascii_uppercase w then Some w else None

-- the name of a hook or a function
abbrev pub lower_of : Text → Option Name
lower_of w = if is_name is_lower_start w then Some w else None

-- the name of a resource
abbrev pub resource_of : Text → Option Name
resource_of w = if is_name is_word_byte w then Some w else None
