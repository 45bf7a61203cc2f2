-- What tokens are, by the text that they are cut from.
use Rattle.std.specs.Prelude.{ℕ, ◌^◌, ◌&&◌, nat_lt, List, [], ◌∷◌, map, take, drop, if◌then◌else◌, Option, Some, None}
use Rattle.std.specs.List.{list_all}
use Rattle.std.specs.Char.{is_ascii_digit}
use Rattle.std.specs.Str.{is_utf8}
use Rattle.std.specs.Str.Parse.{digits_value}
use Rattle.rx_lex.specs.declared.token.Kind.{Kind}
use Rattle.rx_lex.specs.declared.token.Kind.TheVariants.{Upper, Lower, Number, Text, Word, Mark, End}
use Rattle.rx_lex.specs.declared.token.Token.{Token}
use Rattle.rx_lex.specs.declared.spans.Shape.{Shape}
use Rattle.rx_lex.specs.declared.spans.Shape.TheVariants as shape
use Rattle.rx_lex.specs.declared.spans.Span.{Span}
use Rattle.rx_lex.specs.declared.spans.Tokens.{Tokens}
use Rattle.rx_lex.specs.declared.spans.Rest.{Rest}
use Rattle.rx_lex.specs.Tokens.{kinds}

-- bytes that are UTF-8, and nothing in place of others
abbrev pub as_text : List ℕ → List ℕ
as_text bs = if is_utf8 bs then bs else []

-- so many bytes from a place on
abbrev pub bytes_at : (len place : ℕ) → List ℕ → List ℕ
bytes_at len place bs = take len (drop place bs)

-- the text in so many bytes at the front
abbrev pub cut : ℕ → List ℕ → List ℕ
cut len bs = as_text (take len bs)

-- the number that digits write; 0 for what is no number of 64 bits
unfoldable pub number_in : List ℕ → ℕ
number_in bs = if list_all is_ascii_digit bs && nat_lt (digits_value 10 bs) (2 ^ 64) then digits_value 10 bs else 0

-- the token of this shape at the front of this text; a string begins behind its quote
abbrev pub seen : List ℕ → Shape → Kind
seen bs (shape.Upper len) = Upper (cut len bs)
seen bs (shape.Lower len) = Lower (cut len bs)
seen bs (shape.Number len) = Number (number_in (cut len bs))
seen bs (shape.Text len) = Text (cut len (drop 1 bs))
seen bs (shape.Word k) = Word k
seen bs (shape.Mark s) = Mark s
seen bs shape.End = End

-- the same, if there is one
abbrev pub seen_if : List ℕ → Option Shape → Option Kind
seen_if bs None = None
seen_if bs (Some s) = Some (seen bs s)

-- a token that is found at this place, or nothing
abbrev pub span_at : ℕ → Option Shape → List Span
span_at at None = []
span_at at (Some s) = record { shape = s; place = at } ∷ []

-- what a token of this text is
abbrev pub kind_in : List ℕ → Span → Kind
kind_in text s = seen (drop s.place text) s.shape

-- a token of this text, with its place
abbrev pub token_in : List ℕ → Span → Token
token_in text s = record { kind = kind_in text s; place = s.place }

-- tokens of this text
abbrev pub tokens_in : List ℕ → List Span → List Token
tokens_in text ss = map (token_in text) ss

-- the tokens of a text
abbrev pub tokens_of : Tokens → List Token
tokens_of t = tokens_in t.text.now t.spans.items

-- the tokens from one on
abbrev pub tokens_left : Rest → List Token
tokens_left r = tokens_in r.text.now r.spans.now

-- what the tokens from one on are
abbrev pub kinds_of : Rest → List Kind
kinds_of r = kinds (tokens_left r)
