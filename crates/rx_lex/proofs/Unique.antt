-- No text begins with two different pieces.
use Rattle.std.proofs.Common.{◌≡◌, ℕ, ◌<◌, ◌≤◌, ◌^◌, Bool, true, false, cond, Option, Some, List, [], ◌∷◌, ◌++◌, length, drop, get_or, codes, refl, sym, ap, ◌∙◌, subst, append_assoc, arith, length-append, length-drop, ⊎_elim, ◌⊎◌, inl, inr}
use Rattle.std.proofs.lemmas.List.{drop-append-le}
use Rattle.std.proofs.Math.Seq.{drop-append_seam}
use Rattle.std.proofs.str.Laws.{order}
use Rattle.rx_lex.proofs.Quotes.{is_no_quote, inside_no_quote}
use Rattle.rx_lex.proofs.Cover.{piece_nonempty}
use Rattle.std.specs.Str.{bytes_eq}
use Rattle.std.specs.Char.{is_ascii_digit}
use Rattle.std.specs.Int.{is_in_range}
use Rattle.std.specs.Fmt.{decimal}
use Rattle.std.proofs.lemmas.Bool.{false≢true}
use Rattle.std.proofs.lemmas.Bool.Decides.{nat_tests}
use Rattle.std.proofs.lemmas.Fmt.{decimal_injective, decimal_is_IsNumeral}
use Rattle.std.proofs.lemmas.Str.Parse.{digit_at}
use Rattle.rx_lex.specs.declared.token.Keyword.{Keyword}
use Rattle.rx_lex.specs.declared.token.Keyword.TheVariants as keyword
use Rattle.rx_lex.specs.declared.token.Sign.{Sign}
use Rattle.rx_lex.specs.declared.token.Kind.{Kind}
use Rattle.rx_lex.specs.declared.token.Kind.TheVariants.{Upper, Lower, Number, Text, Word, Mark, End}
use Rattle.rx_lex.specs.Tokens.{is_word_byte, is_in_line, is_inside, IsRun, IsRunEnd, keyword_text, sign_text, spelling, SignEnds, IsWordKind, Blank, LineComment, BlockComment, IsClosedFirst, Piece, Between, Meant, StandsFirst, CoversTo, IsUncovered, piece_text, AreTokensBelow, IsFirstUncoveredBelow, tokens_from}
use Rattle.rx_lex.specs.declared.token.Token.{Token}
use Rattle.rx_lex.proofs.Classes.{sign_by, sign_back, class_of, class_is, gap_class, token_class}
use Rattle.rx_lex.proofs.Runs.{run_unique}
use Rattle.rx_lex.proofs.Fronts.{word_run}

-- reserved words by their texts
keyword_by : List ℕ → Option Keyword
keyword_by w =
    (cond (bytes_eq w (codes "const")) (Some keyword.Const)
    (cond (bytes_eq w (codes "function")) (Some keyword.Function)
    (cond (bytes_eq w (codes "return")) (Some keyword.Return)
    (cond (bytes_eq w (codes "null")) (Some keyword.Null)
    (cond (bytes_eq w (codes "for")) (Some keyword.For)
    (cond (bytes_eq w (codes "children")) (Some keyword.Children)
    (cond (bytes_eq w (codes "key")) (Some keyword.Key)
    (cond (bytes_eq w (codes "createContext")) (Some keyword.CreateContext)
    (cond (bytes_eq w (codes "useState")) (Some keyword.UseState)
    (cond (bytes_eq w (codes "useReducer")) (Some keyword.UseReducer)
    (cond (bytes_eq w (codes "useContext")) (Some keyword.UseContext)
    (cond (bytes_eq w (codes "useEffect")) (Some keyword.UseEffect)
    (cond (bytes_eq w (codes "useLayoutEffect")) (Some keyword.UseLayoutEffect)
    (cond (bytes_eq w (codes "use")) (Some keyword.Use)
    (cond (bytes_eq w (codes "useTransition")) (Some keyword.UseTransition)
    (cond (bytes_eq w (codes "memo")) (Some keyword.Memo)
    (cond (bytes_eq w (codes "throwIf")) (Some keyword.ThrowIf)
    (cond (bytes_eq w (codes "Suspense")) (Some keyword.Suspense)
    (cond (bytes_eq w (codes "Provider")) (Some keyword.Provider)
    (Some keyword.Catch))))))))))))))))))))

keyword_back : (k : Keyword) → keyword_by (keyword_text k) ≡ Some k
unfolding keyword_by
keyword_back keyword.Const = refl
keyword_back _ = refl

keyword_unique : (k l : Keyword) → keyword_text k ≡ keyword_text l → k ≡ l
keyword_unique k l e = let both = sym (keyword_back k) ∙ ap keyword_by e ∙ keyword_back l in cc

-- a number begins with a digit
number_first : (n : ℕ) → n < 2 ^ 64 → is_ascii_digit (get_or (decimal n) 0 0) ≡ true
number_first n fits =
    let numeral = decimal_is_IsNumeral n (omega arith) in
    let first = digit_at (decimal n) 0 numeral.0.1 numeral.0.0 in
    grind (arith, nat_tests)

keyword_first : (k : Keyword) → (is_ascii_digit (get_or (keyword_text k) 0 0) ≡ false)
keyword_first keyword.Const = refl
keyword_first _ = refl

upper_no_digit : (b : ℕ) → is_in_range 65 90 b ≡ true → is_ascii_digit b ≡ false
upper_no_digit b h = grind (arith, nat_tests)

apart : {P : Type 0} (b : Bool) → b ≡ true → b ≡ false → P
apart b t f = absurd (false≢true (sym f ∙ t))

word_unique : {greatest : ℕ} → greatest < 2 ^ 64 → (k l : Kind) → spelling k ≡ spelling l → IsWordKind greatest k → IsWordKind greatest l → k ≡ l
word_unique small (Upper n) (Upper m) e hk hl = ap Upper e
word_unique small (Upper n) (Lower m) e hk hl = apart _ hk.1 (ap (λ w. is_in_range 65 90 (get_or w 0 0)) e ∙ hl.2)
word_unique small (Upper n) (Number m) e hk hl = apart _ (ap (λ w. is_ascii_digit (get_or w 0 0)) e ∙ number_first m (omega arith)) (upper_no_digit (get_or n 0 0) hk.1)
word_unique small (Upper n) (Word m) e hk hl = absurd (hk.0.free m e)
word_unique small (Lower n) (Upper m) e hk hl = apart _ hl.1 (ap (λ w. is_in_range 65 90 (get_or w 0 0)) (sym e) ∙ hk.2)
word_unique small (Lower n) (Lower m) e hk hl = ap Lower e
word_unique small (Lower n) (Number m) e hk hl = apart _ (ap (λ w. is_ascii_digit (get_or w 0 0)) e ∙ number_first m (omega arith)) hk.3
word_unique small (Lower n) (Word m) e hk hl = absurd (hk.0.free m e)
word_unique small (Number n) (Upper m) e hk hl = apart _ (ap (λ w. is_ascii_digit (get_or w 0 0)) (sym e) ∙ number_first n (omega arith)) (upper_no_digit (get_or m 0 0) hl.1)
word_unique small (Number n) (Lower m) e hk hl = apart _ (ap (λ w. is_ascii_digit (get_or w 0 0)) (sym e) ∙ number_first n (omega arith)) hl.3
word_unique small (Number n) (Number m) e hk hl = ap Number (decimal_injective n m (omega arith) (omega arith) e)
word_unique small (Number n) (Word m) e hk hl = apart _ (ap (λ w. is_ascii_digit (get_or w 0 0)) (sym e) ∙ number_first n (omega arith)) (keyword_first m)
word_unique small (Word n) (Upper m) e hk hl = absurd (hl.0.free n (sym e))
word_unique small (Word n) (Lower m) e hk hl = absurd (hl.0.free n (sym e))
word_unique small (Word n) (Number m) e hk hl = apart _ (ap (λ w. is_ascii_digit (get_or w 0 0)) e ∙ number_first m (omega arith)) (keyword_first n)
word_unique small (Word n) (Word m) e hk hl = ap Word (keyword_unique n m e)
word_unique small (Text n) l e hk hl = absurd hk
word_unique small (Mark n) l e hk hl = absurd hk
word_unique small End l e hk hl = absurd hk
word_unique small k (Text m) e hk hl = absurd hl
word_unique small k (Mark m) e hk hl = absurd hl
word_unique small k End e hk hl = absurd hl

pub append_left : (xs a b : List ℕ) → xs ++ a ≡ xs ++ b → a ≡ b
append_left [] a b e = e
append_left (x ∷ xs) a b e = let tails : xs ++ a ≡ xs ++ b = cc in append_left xs a b tails

sign_unique : (s t : Sign) (a b : List ℕ) → SignEnds s a → SignEnds t b → sign_text s ++ a ≡ sign_text t ++ b → (s ≡ t) × (a ≡ b)
sign_unique s t a b hs ht e =
    let same = sym (sign_back s a hs) ∙ ap sign_by e ∙ sign_back t b ht in
    (same, append_left (sign_text s) a b (e ∙ ap (λ x. sign_text x ++ b) (sym same)))

-- two words at the front are one
words_unique : {greatest : ℕ} → greatest < 2 ^ 64 → (k l : Kind) (text a b : List ℕ) → text ≡ spelling k ++ a → text ≡ spelling l ++ b → IsWordKind greatest k → IsWordKind greatest l → IsRunEnd is_word_byte a → IsRunEnd is_word_byte b → (Meant k ≡ Meant l) × (a ≡ b)
words_unique small k l text a b e f hk hl ra rb =
    let both = run_unique is_word_byte (spelling k) (spelling l) a b (word_run small k hk).0 ra (word_run small l hl).0 rb (sym e ∙ f) in
    (ap Meant (word_unique small k l both.0 hk hl), both.1)

same_length : (x y a b : List ℕ) → length x ≡ length y → x ++ a ≡ y ++ b → (x ≡ y) × (a ≡ b)
same_length [] [] a b n e = (refl, e)
same_length [] (d ∷ y) a b n e = absurd (omega arith)
same_length (c ∷ x) [] a b n e = absurd (omega arith)
same_length (c ∷ x) (d ∷ y) a b n e =
    let heads : c ≡ d = cc in
    let tails : x ++ a ≡ y ++ b = cc in
    let both = same_length x y a b (omega arith) tails in
    ((λ i. heads i ∷ both.0 i), both.1)

front_two : (l b a : List ℕ) → 2 ≤ length l → l ++ b ≡ 42 ∷ 47 ∷ a → (more : List ℕ) × (l ≡ 42 ∷ 47 ∷ more)
front_two [] b a n e = absurd (omega arith)
front_two (c ∷ []) b a n e = absurd (omega arith)
front_two (c ∷ d ∷ l) b a n e =
    let first : c ≡ 42 = cc in
    let second : d ≡ 47 = cc in
    (l, (λ i. first i ∷ (second i ∷ l)))

-- a comment does not close before its first `*/`
not_earlier : (x y a b : List ℕ) → IsClosedFirst y → (x ++ codes "*/") ++ a ≡ (y ++ codes "*/") ++ b → length x < length y → ⊥
not_earlier x y a b hy e lt =
    let within : length x ≤ length (y ++ codes "*/") = omega (arith, length-append y (codes "*/")) in
    let there = sym (drop-append-le (length x) (y ++ codes "*/") b within) ∙ ap (drop (length x)) (sym e ∙ append_assoc x (codes "*/") a) ∙ drop-append_seam x (codes "*/" ++ a) in
    let long : 2 ≤ length (drop (length x) (y ++ codes "*/")) = omega (arith, length-drop (length x) (y ++ codes "*/"), length-append y (codes "*/")) in
    let f = front_two (drop (length x) (y ++ codes "*/")) b a long there in
    hy (length x) lt f.0 f.1

-- two closings of a comment are one
pub closed_unique : (x y a b : List ℕ) → IsClosedFirst x → IsClosedFirst y → (x ++ codes "*/") ++ a ≡ (y ++ codes "*/") ++ b → (x ≡ y) × (a ≡ b)
closed_unique x y a b hx hy e = ⊎_elim
    (λ lt. absurd (not_earlier x y a b hy e lt))
    (λ le. ⊎_elim
    (λ lt. absurd (not_earlier y x b a hx (sym e) lt))
    (λ ge.
    let w = same_length x y (codes "*/" ++ a) (codes "*/" ++ b) (omega arith) (sym (append_assoc x (codes "*/") a) ∙ e ∙ append_assoc y (codes "*/") b) in
    (w.0, append_left (codes "*/") a b w.1))
    (order (length y) (length x)))
    (order (length x) (length y))

no_quote_end : (a : List ℕ) → IsRunEnd is_no_quote (34 ∷ a)
no_quote_end a = refl

pub strings_unique : (s t a b text : List ℕ) → text ≡ (34 ∷ (s ++ 34 ∷ [])) ++ a → text ≡ (34 ∷ (t ++ 34 ∷ [])) ++ b → IsRun is_inside s → IsRun is_inside t → (s ≡ t) × (a ≡ b)
strings_unique s t a b text e f hs ht =
    let tails = append_left (34 ∷ []) ((s ++ 34 ∷ []) ++ a) ((t ++ 34 ∷ []) ++ b) (sym e ∙ f) in
    let both = run_unique is_no_quote s t (34 ∷ a) (34 ∷ b) (inside_no_quote s hs) refl (inside_no_quote t ht) refl (sym (append_assoc s (34 ∷ []) a) ∙ tails ∙ append_assoc t (34 ∷ []) b) in
    (both.0, append_left (34 ∷ []) a b both.1)

-- no text begins with two different pieces
pub unique : {greatest : ℕ} → greatest < 2 ^ 64 → (p q : Piece) (text a b : List ℕ) → StandsFirst greatest p text a → StandsFirst greatest q text b → class_of p ≡ class_of q → (p ≡ q) × (a ≡ b)
unique small (Between (Blank x)) (Between (Blank y)) text a b h g e =
    let both : x ∷ a ≡ y ∷ b = sym h.written ∙ g.written in
    let heads : x ≡ y = cc in
    let tails : a ≡ b = cc in
    (ap (λ z. Between (Blank z)) heads, tails)
unique small (Between (LineComment x)) (Between (LineComment y)) text a b h g e =
    let tails = append_left (codes "//") (x ++ a) (y ++ b) (sym h.written ∙ g.written) in
    let both = run_unique is_in_line x y a b h.whole.0 h.whole.1 g.whole.0 g.whole.1 tails in
    (ap (λ z. Between (LineComment z)) both.0, both.1)
unique small (Between (BlockComment x)) (Between (BlockComment y)) text a b h g e =
    let tails = append_left (codes "/*") ((x ++ codes "*/") ++ a) ((y ++ codes "*/") ++ b) (sym h.written ∙ g.written) in
    let both = closed_unique x y a b h.whole g.whole tails in
    (ap (λ z. Between (BlockComment z)) both.0, both.1)
unique small (Meant (Text s)) (Meant (Text t)) text a b h g e =
    let both = strings_unique s t a b text h.written g.written h.whole g.whole in (ap (λ z. Meant (Text z)) both.0, both.1)
unique small (Meant (Mark s)) (Meant (Mark t)) text a b h g e =
    let both = sign_unique s t a b h.whole g.whole (sym h.written ∙ g.written) in (ap (λ z. Meant (Mark z)) both.0, both.1)
unique small (Meant End) q text a b h g e = absurd h.whole.0
unique small p (Meant End) text a b h g e = absurd g.whole.0
unique small (Meant (Upper n)) (Meant (Upper m)) text a b h g e = words_unique small _ _ text a b h.written g.written h.whole.0 g.whole.0 h.whole.1 g.whole.1
unique small (Meant (Upper n)) (Meant (Lower m)) text a b h g e = words_unique small (Upper n) (Lower m) text a b h.written g.written h.whole.0 g.whole.0 h.whole.1 g.whole.1
unique small (Meant (Upper n)) (Meant (Number m)) text a b h g e = words_unique small (Upper n) (Number m) text a b h.written g.written h.whole.0 g.whole.0 h.whole.1 g.whole.1
unique small (Meant (Upper n)) (Meant (Word m)) text a b h g e = words_unique small (Upper n) (Word m) text a b h.written g.written h.whole.0 g.whole.0 h.whole.1 g.whole.1
unique small (Meant (Lower n)) (Meant (Upper m)) text a b h g e = words_unique small (Lower n) (Upper m) text a b h.written g.written h.whole.0 g.whole.0 h.whole.1 g.whole.1
unique small (Meant (Lower n)) (Meant (Lower m)) text a b h g e = words_unique small (Lower n) (Lower m) text a b h.written g.written h.whole.0 g.whole.0 h.whole.1 g.whole.1
unique small (Meant (Lower n)) (Meant (Number m)) text a b h g e = words_unique small (Lower n) (Number m) text a b h.written g.written h.whole.0 g.whole.0 h.whole.1 g.whole.1
unique small (Meant (Lower n)) (Meant (Word m)) text a b h g e = words_unique small (Lower n) (Word m) text a b h.written g.written h.whole.0 g.whole.0 h.whole.1 g.whole.1
unique small (Meant (Number n)) (Meant (Upper m)) text a b h g e = words_unique small (Number n) (Upper m) text a b h.written g.written h.whole.0 g.whole.0 h.whole.1 g.whole.1
unique small (Meant (Number n)) (Meant (Lower m)) text a b h g e = words_unique small (Number n) (Lower m) text a b h.written g.written h.whole.0 g.whole.0 h.whole.1 g.whole.1
unique small (Meant (Number n)) (Meant (Number m)) text a b h g e = words_unique small (Number n) (Number m) text a b h.written g.written h.whole.0 g.whole.0 h.whole.1 g.whole.1
unique small (Meant (Number n)) (Meant (Word m)) text a b h g e = words_unique small (Number n) (Word m) text a b h.written g.written h.whole.0 g.whole.0 h.whole.1 g.whole.1
unique small (Meant (Word n)) (Meant (Upper m)) text a b h g e = words_unique small (Word n) (Upper m) text a b h.written g.written h.whole.0 g.whole.0 h.whole.1 g.whole.1
unique small (Meant (Word n)) (Meant (Lower m)) text a b h g e = words_unique small (Word n) (Lower m) text a b h.written g.written h.whole.0 g.whole.0 h.whole.1 g.whole.1
unique small (Meant (Word n)) (Meant (Number m)) text a b h g e = words_unique small (Word n) (Number m) text a b h.written g.written h.whole.0 g.whole.0 h.whole.1 g.whole.1
unique small (Meant (Word n)) (Meant (Word m)) text a b h g e = words_unique small (Word n) (Word m) text a b h.written g.written h.whole.0 g.whole.0 h.whole.1 g.whole.1
unique small (Meant k) (Between y) text a b h g e = absurd (omega (arith, gap_class y, token_class k))
unique small (Between x) (Meant k) text a b h g e = absurd (omega (arith, gap_class x, token_class k))
unique small p q text a b h g e = absurd (omega arith)

pub piece_unique : {greatest : ℕ} → greatest < 2 ^ 64 → (p q : Piece) (text a b : List ℕ) → StandsFirst greatest p text a → StandsFirst greatest q text b → (p ≡ q) × (a ≡ b)
piece_unique small p q text a b h g = unique small p q text a b h g (sym (class_is small p text a h) ∙ class_is small q text b g)

-- the text ends here, or no piece stands
abbrev pub IsEnd : ℕ → List ℕ → Type 0
IsEnd greatest rest = (rest ≡ []) ⊎ IsUncovered greatest rest

no_more : {greatest : ℕ} → greatest < 2 ^ 64 → (p : Piece) (text rest after : List ℕ) → text ≡ rest → IsEnd greatest rest → StandsFirst greatest p text after → ⊥
no_more {greatest = greatest} small p text rest after same end stands = ⊎_elim
    (λ e. let gone = sym (same ∙ e) ∙ stands.written in omega (arith, ap length gone, length-append (piece_text p) after, piece_nonempty small p after stands.whole))
    (λ u. u p after (subst (λ l. StandsFirst greatest p l after) same stands))
    end

-- the pieces that cover a text as far as pieces go are these alone
pub covers_unique : {greatest : ℕ} → greatest < 2 ^ 64 → (ps qs : List Piece) (text rest other : List ℕ) → CoversTo greatest ps text rest → CoversTo greatest qs text other → IsEnd greatest rest → IsEnd greatest other → (rest ≡ other) × (ps ≡ qs)
covers_unique small [] [] text rest other h g end last = (sym h ∙ g, refl)
covers_unique small [] (q ∷ qs) text rest other h g end last = absurd (no_more small q text rest g.0 h end g.1)
covers_unique small (p ∷ ps) [] text rest other h g end last = absurd (no_more small p text other h.0 g last h.1)
covers_unique {greatest = greatest} small (p ∷ ps) (q ∷ qs) text rest other h g end last =
    let both = piece_unique small p q text h.0 g.0 h.1 g.1 in
    let others = covers_unique small ps qs h.0 rest other h.2 (subst (λ l. CoversTo greatest qs l other) (sym both.1) g.2) end last in
    (others.0, (λ i. both.0 i ∷ others.1 i))

pub nil_of_length : (rest : List ℕ) → length rest ≡ 0 → rest ≡ []
nil_of_length [] e = refl
nil_of_length (b ∷ bs) e = absurd (omega arith)

-- no two lists of tokens cover one text
pub tokens_unique : {greatest : ℕ} → greatest < 2 ^ 64 → (text : List ℕ) (ts us : List Token) → AreTokensBelow greatest ts text → AreTokensBelow greatest us text → ts ≡ us
tokens_unique small text ts us h g =
    let w = covers_unique small h.0 g.0 text [] [] h.1 g.1 (inl refl) (inl refl) in
    h.2 ∙ ap (tokens_from 0) w.1 ∙ sym g.2

pub place_unique : {greatest : ℕ} → greatest < 2 ^ 64 → (at other : ℕ) (text : List ℕ) → IsFirstUncoveredBelow greatest at text → IsFirstUncoveredBelow greatest other text → at ≡ other
place_unique small at other text h g =
    let w = covers_unique small h.0 g.0 text h.1.0 g.1.0 h.1.1 g.1.1 (inr h.1.4) (inr g.1.4) in
    omega (arith, h.1.2, g.1.2, ap length w.0)

pub place_or_tokens : {greatest : ℕ} → greatest < 2 ^ 64 → (at : ℕ) (text : List ℕ) (ts : List Token) → IsFirstUncoveredBelow greatest at text → AreTokensBelow greatest ts text → ⊥
place_or_tokens small at text ts h g = h.1.3 (covers_unique small h.0 g.0 text h.1.0 [] h.1.1 g.1 (inr h.1.4) (inl refl)).0
