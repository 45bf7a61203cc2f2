-- What stands at the front of a text, from what the methods of a text say.
use Rattle.std.proofs.Common.{◌≡◌, ◌≢◌, ℕ, ◌+◌, ◌<◌, ◌≤◌, ◌^◌, true, Bor, Option, Some, None, IfSome, List, [], ◌∷◌, ◌++◌, length, drop, get_or, codes, refl, sym, ap, ◌∙◌, append_assoc, arith, rules, length-append, lit<, IsUtf8, Bool, suc, subst, ◌-◌}
use Rattle.std.specs.Str.{IsCharBoundary}
use Rattle.std.specs.Int.{IsInRange, is_in_range}
use Rattle.std.specs.Fmt.{decimal}
use Rattle.std.proofs.lemmas.Fmt.{decimal_is_IsNumeral, decimal_nonempty}
use Rattle.std.proofs.lemmas.Str.Parse.{digit_at}
use Rattle.std.proofs.lemmas.Str.{IsCharBoundary-after_ascii}
use Rattle.rx_lex.specs.declared.token.Keyword.{Keyword}
use Rattle.rx_lex.specs.declared.token.Keyword.TheVariants.{Const}
use Rattle.rx_lex.specs.declared.token.Sign.{Sign}
use Rattle.rx_lex.specs.declared.token.Sign.TheVariants.{Less}
use Rattle.rx_lex.specs.declared.token.Kind.{Kind}
use Rattle.rx_lex.specs.declared.token.Kind.TheVariants.{Upper, Lower, Number, Text, Word, Mark, End}
use Rattle.rx_lex.proofs.Runs.{run_unique}
use Rattle.std.specs.Str.Pattern.{LacksTextAt}
use Rattle.std.proofs.lemmas.Bool.Decides.{nat_tests}
use Rattle.std.proofs.lemmas.List.{drop-append-le}
use Rattle.std.proofs.lemmas.List.Prefix.{front_rest, front_reads}
use Rattle.rx_lex.specs.Tokens.{is_blank, is_in_line, IsRun, IsRunEnd, IsClosedFirst, Gap, Blank, LineComment, BlockComment, Piece, Between, Meant, StandsFirst, IsUncovered, is_word_byte, keyword_text, sign_text, spelling, IsWordKind, gap_text, IsGap, is_inside, SignEnds, IsToken, kind_of}

-- no `*/` begins before the one that ends the body
pub closed_first : (s body rest : List ℕ) → s ≡ body ++ (codes "*/" ++ rest) → ((k : ℕ) → k < length body → LacksTextAt (codes "*/") s k) → IsClosedFirst body
closed_first s body rest e lacks k lt more h =
    let within : k ≤ length (body ++ codes "*/") = omega (arith, length-append body (codes "*/")) in
    lacks k lt (more ++ rest)
    (ap (drop k) (e ∙ sym (append_assoc body (codes "*/") rest)) ∙ drop-append-le k (body ++ codes "*/") rest within ∙ ap (λ l. l ++ rest) h)

-- a text that is nowhere at a place is no part
pub lacks_everywhere : (p s : List ℕ) → ((k : ℕ) → k ≤ length s → LacksTextAt p s k) → (front rest : List ℕ) → s ≢ front ++ (p ++ rest)
lacks_everywhere p s lacks front rest e =
    lacks (length front) (omega (arith, ap length e, length-append front (p ++ rest))) rest (front_rest s front (p ++ rest) e)

pub line_comment_front : (text body rest : List ℕ) → text ≡ codes "//" ++ body → (line : List ℕ) × (body ≡ line ++ rest) × IsRun is_in_line line × IsRunEnd is_in_line rest → (g : Gap) × (text ≡ gap_text g ++ rest) × IsGap g rest
line_comment_front text body rest e h = (LineComment h.0, e ∙ ap (λ l. codes "//" ++ l) h.1, (h.2, h.3))

pub block_comment_front : (text body : List ℕ) (r : Option (Bor (List ℕ))) → text ≡ codes "/*" ++ body → IfSome r (λ rest. (inside : List ℕ) × (body ≡ inside ++ (codes "*/" ++ rest.now)) × IsClosedFirst inside) → IfSome r (λ rest. (g : Gap) × (text ≡ gap_text g ++ rest.now) × IsGap g rest.now)
block_comment_front text body None e h = tt
block_comment_front text body (Some rest) e h =
    (BlockComment h.0, e ∙ ap (λ l. codes "/*" ++ l) (h.1 ∙ sym (append_assoc h.0 (codes "*/") rest.now)), h.2)

pub blank_front : (text : List ℕ) (b : ℕ) (others rest : List ℕ) → text ≡ b ∷ others → is_blank b ≡ true → rest ≡ drop 1 text → (g : Gap) × (text ≡ gap_text g ++ rest) × IsGap g rest
blank_front text b others rest e blank r = (Blank b, e ∙ ap (λ l. b ∷ l) (sym (r ∙ ap (drop 1) e)), blank)

pub blank_is_ascii : (b : ℕ) → is_blank b ≡ true → b < 128
blank_is_ascii b e = grind (arith, nat_tests)

-- a sign is ASCII
sign_ascii : (s : Sign) → (0 < length (sign_text s)) × (get_or (sign_text s) (length (sign_text s) - 1) 0 < 128)
sign_ascii Less = (lit< tt, lit< tt)
sign_ascii _ = (lit< tt, lit< tt)

-- so a text may be cut behind it
pub sign_ends : (s : Sign) (bs rest : List ℕ) → IsUtf8 bs → bs ≡ sign_text s ++ rest → IsCharBoundary bs (length (sign_text s))
sign_ends s bs rest utf8 e =
    let len = length (sign_text s) in
    let ascii = sign_ascii s in
    let again : len - 1 + 1 ≡ len = omega arith in
    let within : len ≤ length bs = omega (arith, ap length e, length-append (sign_text s) rest) in
    let last : get_or bs (len - 1) 0 ≡ get_or (sign_text s) (len - 1) 0 = front_reads 0 bs (sign_text s) rest e (len - 1) (omega arith) in
    subst (IsCharBoundary bs) again (IsCharBoundary-after_ascii bs (len - 1) utf8 (omega arith) (omega arith))

keyword_run : (k : Keyword) → IsRun is_word_byte (keyword_text k) × (0 < length (keyword_text k))
keyword_run Const = search rules
keyword_run _ = search rules

digit_in_word : (b : ℕ) → IsInRange 48 57 b → is_word_byte b ≡ true
digit_in_word b h = grind (arith, nat_tests)

-- bytes that pass at each place are a run
pub run_from_reads : (p : ℕ → Bool) (bs : List ℕ) → ((i : ℕ) → i < length bs → p (get_or bs i 0) ≡ true) → IsRun p bs
run_from_reads p [] h = tt
run_from_reads p (b ∷ bs) h = (h 0 (omega arith), run_from_reads p bs (λ i lt. h (suc i) (omega arith)))

number_run : (n : ℕ) → n < 2 ^ 64 → IsRun is_word_byte (decimal n) × (0 < length (decimal n))
number_run n fits =
    let numeral = decimal_is_IsNumeral n (omega arith) in
    (run_from_reads is_word_byte (decimal n) (λ i lt. digit_in_word _ (digit_at (decimal n) i numeral.0.1 lt)), decimal_nonempty n (omega arith))

upper_nonempty : (name : List ℕ) → is_in_range 65 90 (get_or name 0 0) ≡ true → 0 < length name
upper_nonempty [] h = cc
upper_nonempty (b ∷ bs) h = omega arith

-- a word is a run of word bytes, and not empty
pub word_run : {greatest : ℕ} → greatest < 2 ^ 64 → (k : Kind) → IsWordKind greatest k → IsRun is_word_byte (spelling k) × (0 < length (spelling k))
word_run small (Upper name) h = (h.0.bytes, upper_nonempty name h.1)
word_run small (Lower name) h = (h.0.bytes, h.1)
word_run small (Number n) h = number_run n (omega arith)
word_run small (Word k) h = keyword_run k
word_run small (Text s) h = absurd h
word_run small (Mark s) h = absurd h
word_run small End h = absurd h

pub no_empty_word : {greatest : ℕ} → greatest < 2 ^ 64 → (w : List ℕ) → length w ≡ 0 → (k : Kind) → w ≡ spelling k → IsWordKind greatest k → ⊥
no_empty_word small w empty k written kind = omega (arith, ap length written, (word_run small k kind).1)

-- if no piece of one form stands first, none does
pub no_piece : {greatest : ℕ} → greatest < 2 ^ 64 → (text : List ℕ) → ((g : Gap) (rest : List ℕ) → text ≡ gap_text g ++ rest → IsGap g rest → ⊥) → ((s rest : List ℕ) → text ≡ (34 ∷ (s ++ 34 ∷ [])) ++ rest → IsRun is_inside s → ⊥) → ((s : Sign) (rest : List ℕ) → text ≡ sign_text s ++ rest → SignEnds s rest → ⊥) → (w after : List ℕ) → text ≡ w ++ after → IsRun is_word_byte w → IsRunEnd is_word_byte after → ((k : Kind) → w ≡ spelling k → IsWordKind greatest k → ⊥) → IsUncovered greatest text
no_piece {greatest = greatest} small text gaps strings signs w after e run end kinds p rest stands = by_piece p stands
  where
    word_case : (k : Kind) → text ≡ spelling k ++ rest → IsWordKind greatest k → IsRunEnd is_word_byte rest → ⊥
    word_case k written kind ends =
        let both = run_unique is_word_byte w (spelling k) after rest run end (word_run small k kind).0 ends (sym e ∙ written) in
        kinds k both.0 kind

    by_piece : (p : Piece) → StandsFirst greatest p text rest → ⊥
    by_piece (Between g) h = gaps g rest h.written h.whole
    by_piece (Meant (Text s)) h = strings s rest h.written h.whole
    by_piece (Meant (Mark s)) h = signs s rest h.written h.whole
    by_piece (Meant End) h = h.whole.0
    by_piece (Meant (Upper n)) h = word_case (Upper n) h.written h.whole.0 h.whole.1
    by_piece (Meant (Lower n)) h = word_case (Lower n) h.written h.whole.0 h.whole.1
    by_piece (Meant (Number n)) h = word_case (Number n) h.written h.whole.0 h.whole.1
    by_piece (Meant (Word k)) h = word_case (Word k) h.written h.whole.0 h.whole.1

pub sign_nonempty : (s : Sign) → 0 < length (sign_text s)
sign_nonempty s = (sign_ascii s).0

-- a word in front of what ends it is a token
pub word_stands : {greatest : ℕ} (k : Kind) (text rest w : List ℕ) → text ≡ w ++ rest → w ≡ spelling k → IsWordKind greatest k → IsRunEnd is_word_byte rest → (p : Piece) × StandsFirst greatest p text rest × (kind_of p ≡ Some k)
word_stands {greatest = greatest} k text rest w e written kind end = (Meant k, record { written = e ∙ ap (λ l. l ++ rest) written; whole = by_kind k kind }, refl)
  where
    by_kind : (k : Kind) → IsWordKind greatest k → IsToken greatest k rest
    by_kind (Upper n) h = (h, end)
    by_kind (Lower n) h = (h, end)
    by_kind (Number n) h = (h, end)
    by_kind (Word n) h = (h, end)
    by_kind (Text s) h = absurd h
    by_kind (Mark s) h = absurd h
    by_kind End h = absurd h
