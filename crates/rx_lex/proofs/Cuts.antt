-- What is cut from a text.
use Rattle.std.proofs.Common.{◌≡◌, ℕ, ◌+◌, ◌<◌, Bool, true, false, cond, Option, Some, None, List, [], ◌∷◌, ◌++◌, length, take, drop, refl, sym, ap, ◌∙◌, IsUtf8, arith, append_assoc, drop-drop}
use Rattle.std.specs.Str.{is_utf8, bytes_eq}
use Rattle.std.proofs.lemmas.Str.{is_utf8-from_IsUtf8, IsUtf8-from_is_utf8}
use Rattle.std.proofs.lemmas.Bool.{false≢true}
use Rattle.std.proofs.lemmas.List.{map-append}
use Rattle.std.proofs.lemmas.Slice.Eq.{bytes_eq-Decides}
use Rattle.std.proofs.Math.Seq.{take-append_seam}
use Rattle.rx_lex.specs.declared.spans.Shape.{Shape}
use Rattle.rx_lex.specs.declared.spans.Span.{Span}
use Rattle.rx_lex.specs.Tokens.{token_at}
use Rattle.rx_lex.specs.Spans.{as_text, bytes_at, cut, seen_if, span_at, token_in, tokens_in}

pub as_text_is : (bs : List ℕ) → IsUtf8 bs → as_text bs ≡ bs
as_text_is bs u = ap (λ b. cond b bs []) (is_utf8-from_IsUtf8 bs u)

by_test : (b : Bool) (bs : List ℕ) → (b ≡ true → IsUtf8 bs) → (IsUtf8 bs → ⊥) → cond b bs [] ≡ []
by_test true bs sure never = absurd (never (sure refl))
by_test false bs sure never = refl

pub as_text_none : (bs : List ℕ) → (IsUtf8 bs → ⊥) → as_text bs ≡ []
as_text_none bs never = by_test (is_utf8 bs) bs (IsUtf8-from_is_utf8 bs) never

-- what stands at the front is cut out
pub cut_front : (w rest bs : List ℕ) (len : ℕ) → bs ≡ w ++ rest → len ≡ length w → IsUtf8 w → cut len bs ≡ w
cut_front w rest bs len e same u = ap as_text (ap (λ n. take n bs) same ∙ (ap (take (length w)) e ∙ take-append_seam w rest)) ∙ as_text_is w u

-- a string is cut out behind its quote
pub cut_string : (s rest bs : List ℕ) (len : ℕ) → bs ≡ (34 ∷ (s ++ 34 ∷ [])) ++ rest → len ≡ length s → IsUtf8 s → cut len (drop 1 bs) ≡ s
cut_string s rest bs len e same u = cut_front s (34 ∷ rest) (drop 1 bs) len (ap (drop 1) e ∙ append_assoc s (34 ∷ []) rest) same u

-- a token that is found, among the others
pub found_in : (text : List ℕ) (ss : List Span) (at : ℕ) (found : Option Shape) → tokens_in text (ss ++ span_at at found) ≡ tokens_in text ss ++ token_at at (seen_if (drop at text) found)
found_in text ss at None = map-append (token_in text) ss []
found_in text ss at (Some s) = map-append (token_in text) ss (record { shape = s; place = at } ∷ [])

-- bytes are a text that is not empty exactly if what they hold as a text is
as_text_same : (bs s : List ℕ) → IsUtf8 s → 0 < length s → (b : Bool) → is_utf8 bs ≡ b → bytes_eq (cond b bs []) s ≡ bytes_eq bs s
as_text_same bs s u some true e = refl
as_text_same bs [] u some false e = absurd (omega arith)
as_text_same bs (c ∷ cs) u some false e = by_test (bytes_eq bs (c ∷ cs)) refl
  where
    by_test : (r : Bool) → bytes_eq bs (c ∷ cs) ≡ r → false ≡ bytes_eq bs (c ∷ cs)
    by_test false f = sym f
    by_test true f =
        let same : bs ≡ c ∷ cs = (bytes_eq-Decides bs (c ∷ cs)).0 f in
        absurd (false≢true (sym e ∙ ap is_utf8 same ∙ is_utf8-from_IsUtf8 (c ∷ cs) u))

pub as_text_eq : (bs s : List ℕ) → IsUtf8 s → 0 < length s → bytes_eq (as_text bs) s ≡ bytes_eq bs s
as_text_eq bs s u some = as_text_same bs s u some (is_utf8 bs) refl

-- a string by its bytes
pub string_eq : (len place : ℕ) (text s : List ℕ) → IsUtf8 s → 0 < length s → bytes_eq (cut len (drop 1 (drop place text))) s ≡ bytes_eq (bytes_at len (place + 1) text) s
string_eq len place text s u some =
    as_text_eq (take len (drop 1 (drop place text))) s u some ∙ ap (λ bs. bytes_eq (take len bs) s) (drop-drop 1 place text)
