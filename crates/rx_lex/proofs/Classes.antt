-- Pieces by the first bytes of a text.
use Rattle.std.proofs.Common.{◌≡◌, ℕ, ◌<◌, ◌≤◌, ◌^◌, ◌==◌, Bool, true, false, cond, List, [], ◌∷◌, ◌++◌, length, codes, refl, ap, ◌∙◌, arith, eqb-true, ◌⊎◌, inl, inr}
use Rattle.std.specs.Fmt.{decimal}
use Rattle.std.proofs.lemmas.Bool.Decides.{nat_tests}
use Rattle.rx_lex.specs.declared.token.Sign.{Sign}
use Rattle.rx_lex.specs.declared.token.Sign.TheVariants as sign
use Rattle.rx_lex.specs.declared.token.Kind.{Kind}
use Rattle.rx_lex.specs.declared.token.Kind.TheVariants.{Upper, Lower, Number, Text, Word, Mark, End}
use Rattle.rx_lex.specs.Tokens.{is_word_byte, is_blank, IsRun, keyword_text, sign_text, NotAtFront, SignEnds, Gap, Blank, LineComment, BlockComment, Piece, Between, Meant, StandsFirst}
use Rattle.rx_lex.proofs.Fronts.{word_run, sign_nonempty}

-- the sign that a text begins with
abbrev next_two : ℕ → List ℕ → Bool
next_two b [] = false
next_two b (c ∷ cs) = c == b

abbrev next_both : ℕ → List ℕ → Bool
next_both b [] = false
next_both b (c ∷ []) = false
next_both b (c ∷ d ∷ cs) = cond (c == b) (d == b) false

pub sign_by : List ℕ → Sign
sign_by [] = sign.Colon
sign_by (b ∷ bs) =
    cond (b == 40) sign.OpenParen (cond (b == 41) sign.CloseParen (cond (b == 123) sign.OpenBrace (cond (b == 125) sign.CloseBrace (cond (b == 91) sign.OpenBracket (cond (b == 93) sign.CloseBracket
    (cond (b == 60) (cond (next_two 61 bs) sign.LessEqual sign.Less) (cond (b == 62) (cond (next_two 61 bs) sign.GreaterEqual sign.Greater)
    (cond (b == 44) sign.Comma (cond (b == 59) sign.Semicolon (cond (b == 61) (cond (next_both 61 bs) sign.Same sign.Equals) (cond (b == 33) (cond (next_both 61 bs) sign.NotSame sign.Not)
    (cond (b == 38) sign.And (cond (b == 124) sign.Or (cond (b == 43) sign.Plus (cond (b == 45) sign.Minus (cond (b == 42) sign.Star (cond (b == 47) sign.Slash (cond (b == 63) sign.Question (cond (b == 46) sign.Dot (cond (b == 37) sign.Percent sign.Colon))))))))))))))))))))

not_next : (b : ℕ) (bs : List ℕ) → NotAtFront (b ∷ []) bs → next_two b bs ≡ false
not_next b [] h = refl
not_next b (c ∷ cs) h = by_test (c == b) refl
  where
    by_test : (r : Bool) → (c == b) ≡ r → (c == b) ≡ false
    by_test false e = e
    by_test true e = absurd (h cs (ap (λ x. x ∷ cs) (eqb-true c b e)))

not_both : (b : ℕ) (bs : List ℕ) → NotAtFront (b ∷ b ∷ []) bs → next_both b bs ≡ false
not_both b [] h = refl
not_both b (c ∷ []) h = refl
not_both b (c ∷ d ∷ cs) h = by_test (c == b) refl (d == b) refl
  where
    by_test : (r : Bool) → (c == b) ≡ r → (s : Bool) → (d == b) ≡ s → cond (c == b) (d == b) false ≡ false
    by_test false e s f = ap (λ x. cond x (d == b) false) e
    by_test true e false f = ap (λ x. cond x (d == b) false) e ∙ f
    by_test true e true f = absurd (h cs (λ i. eqb-true c b e i ∷ (eqb-true d b f i ∷ cs)))

pub sign_back : (s : Sign) (rest : List ℕ) → SignEnds s rest → sign_by (sign_text s ++ rest) ≡ s
unfolding sign_by
sign_back sign.Less rest h = ap (λ r. cond r sign.LessEqual sign.Less) (not_next 61 rest h)
sign_back sign.Greater rest h = ap (λ r. cond r sign.GreaterEqual sign.Greater) (not_next 61 rest h)
sign_back sign.Equals rest h = ap (λ r. cond r sign.Same sign.Equals) (not_both 61 rest h)
sign_back sign.Not rest h = ap (λ r. cond r sign.NotSame sign.Not) (not_both 61 rest h)
sign_back _ rest h = refl

-- pieces by their first bytes
abbrev pub class_of : Piece → ℕ
class_of (Between (Blank b)) = 0
class_of (Between (LineComment body)) = 1
class_of (Between (BlockComment body)) = 2
class_of (Meant (Text s)) = 3
class_of (Meant (Mark s)) = 4
class_of (Meant k) = 5

after_slash : List ℕ → ℕ
after_slash [] = 4
after_slash (c ∷ cs) = cond (c == 47) 1 (cond (c == 42) 2 4)

pub front_class : List ℕ → ℕ
front_class [] = 6
front_class (b ∷ bs) = cond (is_blank b) 0 (cond (is_word_byte b) 5 (cond (b == 34) 3 (cond (b == 47) (after_slash bs) 4)))

slash_alone : (rest : List ℕ) → NotAtFront (codes "/") rest → NotAtFront (codes "*") rest → after_slash rest ≡ 4
unfolding after_slash
slash_alone [] h g = refl
slash_alone (c ∷ cs) h g = ap (λ r. cond r 1 (cond (c == 42) 2 4)) (not_next 47 (c ∷ cs) h) ∙ ap (λ r. cond r 2 4) (not_next 42 (c ∷ cs) g)

sign_class : (s : Sign) (rest : List ℕ) → SignEnds s rest → front_class (sign_text s ++ rest) ≡ 4
unfolding front_class
sign_class sign.Slash rest h = slash_alone rest h.0 h.1
sign_class _ rest h = refl

word_no_blank : (b : ℕ) → is_word_byte b ≡ true → is_blank b ≡ false
word_no_blank b h = grind (arith, nat_tests)

pub word_class : (w rest : List ℕ) → IsRun is_word_byte w → 0 < length w → front_class (w ++ rest) ≡ 5
unfolding front_class
word_class [] rest run some = absurd (omega arith)
word_class (b ∷ w) rest run some =
    ap (λ r. cond r 0 (cond (is_word_byte b) 5 (cond (b == 34) 3 (cond (b == 47) (after_slash (w ++ rest)) 4)))) (word_no_blank b run.0)
    ∙ ap (λ r. cond r 5 (cond (b == 34) 3 (cond (b == 47) (after_slash (w ++ rest)) 4))) run.0

blank_class : (b : ℕ) (rest : List ℕ) → is_blank b ≡ true → front_class (b ∷ rest) ≡ 0
unfolding front_class
blank_class b rest h = ap (λ r. cond r 0 (cond (is_word_byte b) 5 (cond (b == 34) 3 (cond (b == 47) (after_slash rest) 4)))) h

pub comment_classes : (a b : List ℕ) → (front_class (47 ∷ 47 ∷ a) ≡ 1) × (front_class (47 ∷ 42 ∷ a) ≡ 2) × (front_class (34 ∷ b) ≡ 3)
unfolding front_class after_slash
comment_classes a b = (refl, refl, refl)

pub class_is : {greatest : ℕ} → greatest < 2 ^ 64 → (p : Piece) (text rest : List ℕ) → StandsFirst greatest p text rest → front_class text ≡ class_of p
class_is small (Between (Blank b)) text rest h = ap front_class h.written ∙ blank_class b rest h.whole
class_is small (Between (LineComment body)) text rest h = ap front_class h.written ∙ (comment_classes (body ++ rest) []).0
class_is small (Between (BlockComment body)) text rest h = ap front_class h.written ∙ (comment_classes ((body ++ codes "*/") ++ rest) []).1
class_is small (Meant (Text s)) text rest h = ap front_class h.written ∙ (comment_classes [] ((s ++ (34 ∷ [])) ++ rest)).2
class_is small (Meant (Mark s)) text rest h = ap front_class h.written ∙ sign_class s rest h.whole
class_is small (Meant (Upper n)) text rest h = let r = word_run small (Upper n) h.whole.0 in ap front_class h.written ∙ word_class n rest r.0 r.1
class_is small (Meant (Lower n)) text rest h = let r = word_run small (Lower n) h.whole.0 in ap front_class h.written ∙ word_class n rest r.0 r.1
class_is small (Meant (Number n)) text rest h = let r = word_run small (Number n) h.whole.0 in ap front_class h.written ∙ word_class (decimal n) rest r.0 r.1
class_is small (Meant (Word k)) text rest h = let r = word_run small (Word k) h.whole.0 in ap front_class h.written ∙ word_class (keyword_text k) rest r.0 r.1
class_is small (Meant End) text rest h = absurd h.whole.0

-- no sign at the front of a text is longer than the one that it begins with
pub sign_longest : (s : Sign) (after : List ℕ) → length (sign_text s) ≤ length (sign_text (sign_by (sign_text s ++ after)))
unfolding sign_by
sign_longest sign.Less after = omega (arith, sign_nonempty (cond (next_two 61 after) sign.LessEqual sign.Less))
sign_longest sign.Greater after = omega (arith, sign_nonempty (cond (next_two 61 after) sign.GreaterEqual sign.Greater))
sign_longest sign.Equals after = omega (arith, sign_nonempty (cond (next_both 61 after) sign.Same sign.Equals))
sign_longest sign.Not after = omega (arith, sign_nonempty (cond (next_both 61 after) sign.NotSame sign.Not))
sign_longest _ after = omega arith

-- if a sign begins something else, it has one byte
pub sign_or_one : (s : Sign) (after : List ℕ) → (front_class (sign_text s ++ after) ≡ 4) ⊎ (length (sign_text s) ≡ 1)
unfolding front_class
sign_or_one sign.Slash after = inr refl
sign_or_one _ after = inl refl

pub gap_class : (g : Gap) → class_of (Between g) < 3
gap_class (Blank b) = omega arith
gap_class (LineComment b) = omega arith
gap_class (BlockComment b) = omega arith

pub token_class : (k : Kind) → 3 ≤ class_of (Meant k)
token_class (Text s) = omega arith
token_class (Mark s) = omega arith
token_class (Upper s) = omega arith
token_class (Lower s) = omega arith
token_class (Number s) = omega arith
token_class (Word s) = omega arith
token_class End = omega arith
