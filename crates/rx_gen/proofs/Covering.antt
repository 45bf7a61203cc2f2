-- A test for pieces that cover a text.
use Rattle.std.proofs.Common.{◌≡◌, ◌≢◌, ℕ, zero, suc, ◌<◌, ◌==◌, ◌&&◌, not, Bool, true, false, List, [], ◌∷◌, length, refl, subst, arith, nat_le, nat_lt, Some}
use Rattle.std.specs.Prelude.{bytes_eq, slice_get, slice_index}
use Rattle.std.specs.List.{list_all, flat_map}
use Rattle.std.specs.Char.{is_ascii_digit}
use Rattle.std.specs.Int.{is_in_range}
use Rattle.std.proofs.lemmas.Bool.{leb-true}
use Rattle.std.proofs.lemmas.Slice.Eq.{bytes_eq-Decides}
use Rattle.rx_base.specs.Values.{Text}
use Rattle.rx_lex.specs.declared.token.Keyword.{Keyword}
use Rattle.rx_lex.specs.declared.token.Keyword.TheVariants as keyword
use Rattle.rx_lex.specs.declared.token.Sign.{Sign}
use Rattle.rx_lex.specs.declared.token.Sign.TheVariants as sign
use Rattle.rx_lex.specs.declared.token.Kind.{Kind}
use Rattle.rx_lex.specs.declared.token.Kind.TheVariants.{Upper, Lower, Number, Text as Quoted, Word, Mark, End}
use Rattle.rx_lex.specs.Tokens.{IsRun, IsRunEnd, IsName, IsPiece, IsToken, NotAtFront, SignEnds, CoversTo, Piece, Between, Meant, Blank, LineComment, BlockComment, keyword_text, keyword_number, piece_text, is_word_byte, is_blank, greatest_number}

-- both hold
pub both-true : (a b : Bool) → (a && b) ≡ true → (a ≡ true) × (b ≡ true)
both-true true b h = (refl, h)
both-true false b h = cc

-- it does not hold
pub not-true : (a : Bool) → not a ≡ true → a ≡ false
not-true true h = cc
not-true false h = refl

-- Names

-- the reserved words
abbrev pub all_keywords : List Keyword
all_keywords =
    keyword.Const ∷ keyword.Function ∷ keyword.Return ∷ keyword.Null ∷ keyword.For ∷ keyword.Children ∷ keyword.Key ∷ keyword.CreateContext ∷ keyword.UseState
    ∷ keyword.UseReducer ∷ keyword.UseContext ∷ keyword.UseEffect ∷ keyword.UseLayoutEffect ∷ keyword.Use ∷ keyword.UseTransition ∷ keyword.Memo
    ∷ keyword.ThrowIf ∷ keyword.Suspense ∷ keyword.Provider ∷ keyword.Catch ∷ []

-- each stands there at its number
among : (k : Keyword) → slice_get all_keywords (keyword_number k) ≡ Some k
among keyword.Const = refl
among keyword.Function = refl
among keyword.Return = refl
among keyword.Null = refl
among keyword.For = refl
among keyword.Children = refl
among keyword.Key = refl
among keyword.CreateContext = refl
among keyword.UseState = refl
among keyword.UseReducer = refl
among keyword.UseContext = refl
among keyword.UseEffect = refl
among keyword.UseLayoutEffect = refl
among keyword.Use = refl
among keyword.UseTransition = refl
among keyword.Memo = refl
among keyword.ThrowIf = refl
among keyword.Suspense = refl
among keyword.Provider = refl
among keyword.Catch = refl

-- what passes for all of a list passes for each of it
all-there : (p : Keyword → Bool) (ks : List Keyword) (n : ℕ) (k : Keyword) → list_all p ks ≡ true → slice_get ks n ≡ Some k → p k ≡ true
all-there p [] n k h e = cc
all-there p (x ∷ ks) zero k h e = let is : x ≡ k = cc in subst (λ (y : Keyword). p y ≡ true) is (both-true (p x) (list_all p ks) h).0
all-there p (x ∷ ks) (suc n) k h e = all-there p ks n k (both-true (p x) (list_all p ks) h).1 e

-- a text is the same as itself
same-bytes : (w : Text) → bytes_eq w w ≡ true
same-bytes w = (bytes_eq-Decides w w).1 refl

-- a word is none that is reserved
abbrev pub is_free : Text → Bool
is_free w = list_all (λ k. not (bytes_eq w (keyword_text k))) all_keywords

free-sound : (w : Text) → is_free w ≡ true → (k : Keyword) → w ≢ keyword_text k
free-sound w h k e =
    let other : bytes_eq w (keyword_text k) ≡ false = not-true (bytes_eq w (keyword_text k)) (all-there (λ x. not (bytes_eq w (keyword_text x))) all_keywords (keyword_number k) k h (among k)) in
    let same : bytes_eq w (keyword_text k) ≡ true = subst (λ (t : Text). bytes_eq w t ≡ true) e (same-bytes w) in
    cc

-- a test of all bytes
run-of : (p : ℕ → Bool) (bs : Text) → list_all p bs ≡ true → IsRun p bs
run-of p [] h = tt
run-of p (b ∷ bs) h = let k = both-true (p b) (list_all p bs) h in (k.0, run-of p bs k.1)

-- a word of the right bytes, and none that is reserved
abbrev pub is_word : Text → Bool
is_word w = list_all is_word_byte w && is_free w

-- such a word is a name
name-of : (w : Text) → is_word w ≡ true → IsName w
name-of w h = let k = both-true (list_all is_word_byte w) (is_free w) h in record { bytes = run-of is_word_byte w k.0; free = free-sound w k.1 }

-- What follows

-- no word goes on here
abbrev pub ends : Text → Bool
ends [] = true
ends (b ∷ bs) = not (is_word_byte b)

-- so it ends
end-of : (rest : Text) → ends rest ≡ true → IsRunEnd is_word_byte rest
end-of [] h = tt
end-of (b ∷ bs) h = not-true (is_word_byte b) h

-- the text begins with this byte
abbrev pub begins : ℕ → Text → Bool
begins c [] = false
begins c (b ∷ bs) = b == c

-- a text that begins with another byte does not begin with what begins so
not-begins : (c : ℕ) (s bs : Text) → (c == c) ≡ true → not (begins c bs) ≡ true → NotAtFront (c ∷ s) bs
not-begins c s bs self h rest e =
    let no : (c == c) ≡ false = subst (λ (t : Text). begins c t ≡ false) e (not-true (begins c bs) h) in cc

-- no longer sign or comment goes on here
abbrev pub sign_ends : Sign → Text → Bool
sign_ends sign.OpenParen bs = true
sign_ends sign.CloseParen bs = true
sign_ends sign.OpenBrace bs = true
sign_ends sign.CloseBrace bs = true
sign_ends sign.OpenBracket bs = true
sign_ends sign.CloseBracket bs = true
sign_ends sign.Less bs = not (begins 61 bs)
sign_ends sign.LessEqual bs = true
sign_ends sign.Greater bs = not (begins 61 bs)
sign_ends sign.GreaterEqual bs = true
sign_ends sign.Comma bs = true
sign_ends sign.Semicolon bs = true
sign_ends sign.Colon bs = true
sign_ends sign.Question bs = true
sign_ends sign.Dot bs = true
sign_ends sign.Equals bs = not (begins 61 bs)
sign_ends sign.Same bs = true
sign_ends sign.Not bs = not (begins 61 bs)
sign_ends sign.NotSame bs = true
sign_ends sign.And bs = true
sign_ends sign.Or bs = true
sign_ends sign.Plus bs = true
sign_ends sign.Minus bs = true
sign_ends sign.Star bs = true
sign_ends sign.Slash bs = not (begins 47 bs) && not (begins 42 bs)
sign_ends sign.Percent bs = true

-- so the sign ends
sign-sound : (s : Sign) (rest : Text) → sign_ends s rest ≡ true → SignEnds s rest
sign-sound sign.OpenParen rest h = tt
sign-sound sign.CloseParen rest h = tt
sign-sound sign.OpenBrace rest h = tt
sign-sound sign.CloseBrace rest h = tt
sign-sound sign.OpenBracket rest h = tt
sign-sound sign.CloseBracket rest h = tt
sign-sound sign.Less rest h = not-begins 61 [] rest refl h
sign-sound sign.LessEqual rest h = tt
sign-sound sign.Greater rest h = not-begins 61 [] rest refl h
sign-sound sign.GreaterEqual rest h = tt
sign-sound sign.Comma rest h = tt
sign-sound sign.Semicolon rest h = tt
sign-sound sign.Colon rest h = tt
sign-sound sign.Question rest h = tt
sign-sound sign.Dot rest h = tt
sign-sound sign.Equals rest h = not-begins 61 (61 ∷ []) rest refl h
sign-sound sign.Same rest h = tt
sign-sound sign.Not rest h = not-begins 61 (61 ∷ []) rest refl h
sign-sound sign.NotSame rest h = tt
sign-sound sign.And rest h = tt
sign-sound sign.Or rest h = tt
sign-sound sign.Plus rest h = tt
sign-sound sign.Minus rest h = tt
sign-sound sign.Star rest h = tt
sign-sound sign.Slash rest h =
    let k = both-true (not (begins 47 rest)) (not (begins 42 rest)) h in (not-begins 47 [] rest refl k.0, not-begins 42 [] rest refl k.1)
sign-sound sign.Percent rest h = tt

-- Pieces

-- a token in front of this text; none of the generated program is a string
abbrev pub kind_fits : Kind → Text → Bool
kind_fits (Upper name) rest = (is_word name && is_in_range 65 90 (slice_index name 0)) && ends rest
kind_fits (Lower name) rest =
    (is_word name && (nat_lt 0 (length name) && (not (is_in_range 65 90 (slice_index name 0)) && not (is_ascii_digit (slice_index name 0))))) && ends rest
kind_fits (Number n) rest = nat_le n (greatest_number false) && ends rest
kind_fits (Quoted s) rest = false
kind_fits (Word k) rest = ends rest
kind_fits (Mark s) rest = sign_ends s rest
kind_fits End rest = false

-- a test of lengths
positive : (n : ℕ) → nat_lt 0 n ≡ true → 0 < n
positive n h = grind (arith, h)

-- such a token is one of the language
kind-sound : (k : Kind) (rest : Text) → kind_fits k rest ≡ true → IsToken (greatest_number false) k rest
kind-sound (Upper name) rest h =
    let k = both-true (is_word name && is_in_range 65 90 (slice_index name 0)) (ends rest) h in
    let m = both-true (is_word name) (is_in_range 65 90 (slice_index name 0)) k.0 in
    ((name-of name m.0, m.1), end-of rest k.1)
kind-sound (Lower name) rest h =
    let k = both-true (is_word name && (nat_lt 0 (length name) && (not (is_in_range 65 90 (slice_index name 0)) && not (is_ascii_digit (slice_index name 0))))) (ends rest) h in
    let m = both-true (is_word name) (nat_lt 0 (length name) && (not (is_in_range 65 90 (slice_index name 0)) && not (is_ascii_digit (slice_index name 0)))) k.0 in
    let l = both-true (nat_lt 0 (length name)) (not (is_in_range 65 90 (slice_index name 0)) && not (is_ascii_digit (slice_index name 0))) m.1 in
    let j = both-true (not (is_in_range 65 90 (slice_index name 0))) (not (is_ascii_digit (slice_index name 0))) l.1 in
    ((name-of name m.0, positive (length name) l.0, not-true (is_in_range 65 90 (slice_index name 0)) j.0, not-true (is_ascii_digit (slice_index name 0)) j.1), end-of rest k.1)
kind-sound (Number n) rest h =
    let k = both-true (nat_le n (greatest_number false)) (ends rest) h in (leb-true n (greatest_number false) k.0, end-of rest k.1)
kind-sound (Quoted s) rest h = cc
kind-sound (Word k) rest h = (tt, end-of rest h)
kind-sound (Mark s) rest h = sign-sound s rest h
kind-sound End rest h = cc

-- a piece in front of this text; none of the generated program is a comment
abbrev pub piece_fits : Piece → Text → Bool
piece_fits (Between (Blank b)) rest = is_blank b
piece_fits (Between (LineComment body)) rest = false
piece_fits (Between (BlockComment body)) rest = false
piece_fits (Meant k) rest = kind_fits k rest

-- such a piece is one of the language
piece-sound : (p : Piece) (rest : Text) → piece_fits p rest ≡ true → IsPiece (greatest_number false) p rest
piece-sound (Between (Blank b)) rest h = h
piece-sound (Between (LineComment body)) rest h = cc
piece-sound (Between (BlockComment body)) rest h = cc
piece-sound (Meant k) rest h = kind-sound k rest h

-- the text of pieces
abbrev pub text_of : List Piece → Text
text_of ps = flat_map piece_text ps

-- each piece is one in front of those behind it
abbrev pub all_fit : List Piece → Bool
all_fit [] = true
all_fit (p ∷ ps) = piece_fits p (text_of ps) && all_fit ps

-- such pieces cover their text
pub covers : (ps : List Piece) → all_fit ps ≡ true → CoversTo (greatest_number false) ps (text_of ps) []
covers [] h = refl
covers (p ∷ ps) h =
    let k = both-true (piece_fits p (text_of ps)) (all_fit ps) h in
    (text_of ps, record { written = refl; whole = piece-sound p (text_of ps) k.0 }, covers ps k.1)
