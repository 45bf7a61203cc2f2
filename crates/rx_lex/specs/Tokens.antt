-- The tokens of a text: pieces that stand in a row and are the text, each as long as it can be.
use Rattle.std.specs.Prelude.{◌≡◌, ◌≢◌, ℕ, ◌+◌, ◌<◌, ◌≤◌, ◌==◌, ◌||◌, ◌&&◌, not, nat_le, Bool, true, false, List, [], ◌∷◌, ◌++◌, map, length, codes, drop, slice_index, bytes_eq, Option, Some, None}
use Rattle.std.specs.Char.{is_ascii_alphanumeric, is_ascii_digit}
use Rattle.std.specs.Int.{is_in_range}
use Rattle.std.specs.Fmt.{decimal}
use Rattle.rx_lex.specs.declared.token.Keyword.{Keyword}
use Rattle.rx_lex.specs.declared.token.Keyword.TheVariants as keyword
use Rattle.rx_lex.specs.declared.token.Sign.{Sign}
use Rattle.rx_lex.specs.declared.token.Sign.TheVariants as sign
use Rattle.rx_lex.specs.declared.token.Kind.{Kind}
use Rattle.rx_lex.specs.declared.token.Kind.TheVariants.{Upper, Lower, Number, Text, Word, Mark, End}
use Rattle.rx_lex.specs.declared.token.Token.{Token}

-- a byte of a word: a letter, a digit, `_` or `$`
abbrev pub is_word_byte : ℕ → Bool
is_word_byte b = is_ascii_alphanumeric b || (b == 95 || b == 36)

-- a space, a tab, a line feed or a carriage return
abbrev pub is_blank : ℕ → Bool
is_blank b = b == 32 || (b == 9 || (b == 10 || b == 13))

-- a byte of a line
abbrev pub is_in_line : ℕ → Bool
is_in_line b = not (b == 10)

-- a byte between the quotes of a string: no control character, no quote and no backslash
abbrev pub is_inside : ℕ → Bool
is_inside b = nat_le 32 b && (not (b == 34) && not (b == 92))

-- how a reserved word is written
abbrev pub keyword_text : Keyword → List ℕ
keyword_text keyword.Const = codes "const"
keyword_text keyword.Function = codes "function"
keyword_text keyword.Return = codes "return"
keyword_text keyword.Null = codes "null"
keyword_text keyword.For = codes "for"
keyword_text keyword.Children = codes "children"
keyword_text keyword.Key = codes "key"
keyword_text keyword.CreateContext = codes "createContext"
keyword_text keyword.UseState = codes "useState"
keyword_text keyword.UseReducer = codes "useReducer"
keyword_text keyword.UseContext = codes "useContext"
keyword_text keyword.UseEffect = codes "useEffect"
keyword_text keyword.UseLayoutEffect = codes "useLayoutEffect"
keyword_text keyword.Use = codes "use"
keyword_text keyword.UseTransition = codes "useTransition"
keyword_text keyword.Memo = codes "memo"
keyword_text keyword.ThrowIf = codes "throwIf"
keyword_text keyword.Suspense = codes "Suspense"
keyword_text keyword.Provider = codes "Provider"
keyword_text keyword.Catch = codes "Catch"

-- how a sign is written
abbrev pub sign_text : Sign → List ℕ
sign_text sign.OpenParen = codes "("
sign_text sign.CloseParen = codes ")"
sign_text sign.OpenBrace = codes "{"
sign_text sign.CloseBrace = codes "}"
sign_text sign.OpenBracket = codes "["
sign_text sign.CloseBracket = codes "]"
sign_text sign.Less = codes "<"
sign_text sign.LessEqual = codes "<="
sign_text sign.Greater = codes ">"
sign_text sign.GreaterEqual = codes ">="
sign_text sign.Comma = codes ","
sign_text sign.Semicolon = codes ";"
sign_text sign.Colon = codes ":"
sign_text sign.Question = codes "?"
sign_text sign.Dot = codes "."
sign_text sign.Equals = codes "="
sign_text sign.Same = codes "==="
sign_text sign.Not = codes "!"
sign_text sign.NotSame = codes "!=="
sign_text sign.And = codes "&&"
sign_text sign.Or = codes "||"
sign_text sign.Plus = codes "+"
sign_text sign.Minus = codes "-"
sign_text sign.Star = codes "*"
sign_text sign.Slash = codes "/"
sign_text sign.Percent = codes "%"

-- how a token is written
abbrev pub spelling : Kind → List ℕ
spelling (Upper name) = name
spelling (Lower name) = name
spelling (Number n) = decimal n
spelling (Text s) = 34 ∷ (s ++ 34 ∷ [])
spelling (Word k) = keyword_text k
spelling (Mark s) = sign_text s
spelling End = []

-- each byte passes the test
abbrev pub IsRun : (ℕ → Bool) → List ℕ → Type 0
IsRun p [] = Unit {0}
IsRun p (b ∷ bs) = (p b ≡ true) × IsRun p bs

-- no byte that passes the test stands at the front
abbrev pub IsRunEnd : (ℕ → Bool) → List ℕ → Type 0
IsRunEnd p [] = Unit {0}
IsRunEnd p (b ∷ bs) = p b ≡ false

-- the bytes are a word, and none that is reserved
pub record IsName (w : List ℕ) : Type 0 where
  pub bytes : IsRun is_word_byte w
  pub free : (k : Keyword) → w ≢ keyword_text k

-- the text does not begin so
abbrev pub NotAtFront : List ℕ → List ℕ → Type 0
NotAtFront s bs = (rest : List ℕ) → bs ≢ s ++ rest

-- what does not follow a sign, since the two would be a longer sign, or the start of a comment
abbrev pub SignEnds : Sign → List ℕ → Type 0
SignEnds sign.Less bs = NotAtFront (codes "=") bs
SignEnds sign.Greater bs = NotAtFront (codes "=") bs
SignEnds sign.Equals bs = NotAtFront (codes "==") bs
SignEnds sign.Not bs = NotAtFront (codes "==") bs
SignEnds sign.Slash bs = NotAtFront (codes "/") bs × NotAtFront (codes "*") bs
SignEnds s bs = Unit {0}

-- a name that begins with a capital letter, one that does not, a number up to the greatest, a reserved word
abbrev pub IsWordKind : ℕ → Kind → Type 0
IsWordKind greatest (Upper name) = IsName name × (is_in_range 65 90 (slice_index name 0) ≡ true)
IsWordKind greatest (Lower name) = IsName name × (0 < length name) × (is_in_range 65 90 (slice_index name 0) ≡ false) × (is_ascii_digit (slice_index name 0) ≡ false)
IsWordKind greatest (Number n) = n ≤ greatest
IsWordKind greatest (Word k) = Unit {0}
IsWordKind greatest (Text s) = ⊥
IsWordKind greatest (Mark s) = ⊥
IsWordKind greatest End = ⊥

-- a token of the language, in front of this text
abbrev pub IsToken : ℕ → Kind → List ℕ → Type 0
IsToken greatest (Text s) rest = IsRun is_inside s
IsToken greatest (Mark s) rest = SignEnds s rest
IsToken greatest k rest = IsWordKind greatest k × IsRunEnd is_word_byte rest

-- what stands between tokens
pub data Gap : Type 0 where
  Blank : (b : ℕ) → Gap
  LineComment : (body : List ℕ) → Gap
  BlockComment : (body : List ℕ) → Gap

-- how a gap is written; the end of a line comment's line is a blank of its own
abbrev pub gap_text : Gap → List ℕ
gap_text (Blank b) = b ∷ []
gap_text (LineComment body) = codes "//" ++ body
gap_text (BlockComment body) = codes "/*" ++ (body ++ codes "*/")

-- no `*/` begins before the one that closes the body
abbrev pub IsClosedFirst : List ℕ → Type 0
IsClosedFirst body = (k : ℕ) → k < length body → NotAtFront (codes "*/") (drop k (body ++ codes "*/"))

-- a blank or a comment, in front of this text: a line comment goes to its line's end, a block comment to the next `*/`
abbrev pub IsGap : Gap → List ℕ → Type 0
IsGap (Blank b) rest = is_blank b ≡ true
IsGap (LineComment body) rest = IsRun is_in_line body × IsRunEnd is_in_line rest
IsGap (BlockComment body) rest = IsClosedFirst body

-- what stands at the front of a text: a token, or something between tokens
pub data Piece : Type 0 where
  Between : (g : Gap) → Piece
  Meant : (k : Kind) → Piece

-- how a piece is written
abbrev pub piece_text : Piece → List ℕ
piece_text (Between g) = gap_text g
piece_text (Meant k) = spelling k

-- a piece of the language, in front of this text
abbrev pub IsPiece : ℕ → Piece → List ℕ → Type 0
IsPiece greatest (Between g) rest = IsGap g rest
IsPiece greatest (Meant k) rest = IsToken greatest k rest

-- this piece stands at the front of the text, and then the rest
pub record StandsFirst (greatest : ℕ) (p : Piece) (text rest : List ℕ) : Type 0 where
  pub written : text ≡ piece_text p ++ rest
  pub whole : IsPiece greatest p rest

-- no piece stands at the front of the text
abbrev pub IsUncovered : ℕ → List ℕ → Type 0
IsUncovered greatest text = (p : Piece) (after : List ℕ) → StandsFirst greatest p text after → ⊥

-- the pieces cover the text from its front up to the rest
abbrev pub CoversTo : ℕ → List Piece → List ℕ → List ℕ → Type 0
CoversTo greatest [] text rest = text ≡ rest
CoversTo greatest (p ∷ ps) text rest = (after : List ℕ) × StandsFirst greatest p text after × CoversTo greatest ps after rest

-- the token that a piece is, if it is one
abbrev pub kind_of : Piece → Option Kind
kind_of (Between g) = None
kind_of (Meant k) = Some k

-- a token at its place, or nothing
abbrev pub token_at : ℕ → Option Kind → List Token
token_at at None = []
token_at at (Some k) = record { kind = k; place = at } ∷ []

-- the tokens among pieces of which the first stands at this place
abbrev pub tokens_from : ℕ → List Piece → List Token
tokens_from at [] = []
tokens_from at (p ∷ ps) = token_at at (kind_of p) ++ tokens_from (at + length (piece_text p)) ps

-- these tokens cover the text, if numbers go up to the greatest
abbrev pub AreTokensBelow : ℕ → List Token → List ℕ → Type 0
AreTokensBelow greatest ts text = (ps : List Piece) × CoversTo greatest ps text [] × (ts ≡ tokens_from 0 ps)

-- these pieces cover the text up to this place, where it goes on, and there no piece stands
abbrev pub EndsUncovered : ℕ → List Piece → ℕ → List ℕ → Type 0
EndsUncovered greatest ps at text = (rest : List ℕ) × CoversTo greatest ps text rest × (at + length rest ≡ length text) × (rest ≢ []) × IsUncovered greatest rest

-- some pieces do
abbrev pub IsFirstUncoveredBelow : ℕ → ℕ → List ℕ → Type 0
IsFirstUncoveredBelow greatest at text = (ps : List Piece) × EndsUncovered greatest ps at text

-- the mark behind the last token
abbrev pub end_mark : ℕ → Token
end_mark at = record { kind = End; place = at }

-- what the tokens are, without their places
abbrev pub kinds : List Token → List Kind
kinds ts = map (λ t. t.kind) ts

-- a number for each sign, by which two are told apart
abbrev pub sign_number : Sign → ℕ
sign_number sign.OpenParen = 0
sign_number sign.CloseParen = 1
sign_number sign.OpenBrace = 2
sign_number sign.CloseBrace = 3
sign_number sign.OpenBracket = 4
sign_number sign.CloseBracket = 5
sign_number sign.Less = 6
sign_number sign.LessEqual = 7
sign_number sign.Greater = 8
sign_number sign.GreaterEqual = 9
sign_number sign.Comma = 10
sign_number sign.Semicolon = 11
sign_number sign.Colon = 12
sign_number sign.Question = 13
sign_number sign.Dot = 14
sign_number sign.Equals = 15
sign_number sign.Same = 16
sign_number sign.Not = 17
sign_number sign.NotSame = 18
sign_number sign.And = 19
sign_number sign.Or = 20
sign_number sign.Plus = 21
sign_number sign.Minus = 22
sign_number sign.Star = 23
sign_number sign.Slash = 24
sign_number sign.Percent = 25

-- the two are one sign
abbrev pub same_sign : Sign → Sign → Bool
same_sign s t = sign_number s == sign_number t

-- a number for each reserved word, by which two are told apart
abbrev pub keyword_number : Keyword → ℕ
keyword_number keyword.Const = 0
keyword_number keyword.Function = 1
keyword_number keyword.Return = 2
keyword_number keyword.Null = 3
keyword_number keyword.For = 4
keyword_number keyword.Children = 5
keyword_number keyword.Key = 6
keyword_number keyword.CreateContext = 7
keyword_number keyword.UseState = 8
keyword_number keyword.UseReducer = 9
keyword_number keyword.UseContext = 10
keyword_number keyword.UseEffect = 11
keyword_number keyword.UseLayoutEffect = 12
keyword_number keyword.Use = 13
keyword_number keyword.UseTransition = 14
keyword_number keyword.Memo = 15
keyword_number keyword.ThrowIf = 16
keyword_number keyword.Suspense = 17
keyword_number keyword.Provider = 18
keyword_number keyword.Catch = 19

-- the two are one reserved word
abbrev pub same_keyword : Keyword → Keyword → Bool
same_keyword k l = keyword_number k == keyword_number l

-- Versions

-- the text with which a program of version 2 begins
abbrev pub second_text : List ℕ
second_text = codes "use 2"

-- the token is this text
abbrev pub is_text_of : List ℕ → Kind → Bool
is_text_of s (Text t) = bytes_eq t s
is_text_of s k = false

-- the token is this sign
abbrev pub is_sign : Sign → Kind → Bool
is_sign s (Mark t) = same_sign t s
is_sign s k = false

-- the first two tokens are those of version 2: `"use 2"` and `;`
abbrev pub opens_second : List Kind → Bool
opens_second [] = false
opens_second (k ∷ []) = false
opens_second (k ∷ l ∷ ks) = is_text_of second_text k && is_sign sign.Semicolon l

-- the greatest number that a program writes, of version 2 or not
abbrev pub greatest_number : (second : Bool) → ℕ
greatest_number false = 2147483648
greatest_number true = 9223372036854775808

-- the greatest number that a text with these tokens writes, of which the first two tell its version
abbrev pub greatest_in : List Token → ℕ
greatest_in ts = greatest_number (opens_second (kinds ts))

-- these tokens cover the text
abbrev pub AreTokensOf : List Token → List ℕ → Type 0
AreTokensOf ts text = AreTokensBelow (greatest_in ts) ts text

-- the first place that no token covers
abbrev pub IsFirstUncovered : ℕ → List ℕ → Type 0
IsFirstUncovered at text = (ps : List Piece) × EndsUncovered (greatest_in (tokens_from 0 ps)) ps at text
