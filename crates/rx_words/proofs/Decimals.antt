-- A word that asks for a number of rounds is that number's decimal digits.
use Rattle.std.proofs.Common.{◌≡◌, ◌∙◌, ℕ, ◌≤◌, sym, ap, refl, Bool, true, false, cond, ◌&&◌, Option, Some, None, Result, Ok, Err, bytes_eq, decimal, nat_le, subst, arith}
use Rattle.std.specs.Str.Parse.{ParsesUnsigned, digits_value}
use Rattle.std.proofs.lemmas.Bool.{leb-true, le-leb}
use Rattle.std.proofs.lemmas.Fmt.{decimal_is_IsNumeral, parse-decimal}
use Rattle.std.proofs.lemmas.Slice.Eq.{bytes_eq-Decides}
use Rattle.rx_base.specs.Values.{Text}
use Rattle.rx_words.specs.Words.{rounds_of, most_rounds}

-- all tests held, and this is the number
all_held : (a b c : Bool) (m n : ℕ) → ◌≡◌ {A = Option ℕ} (cond (a && (b && c)) (Some m) None) (Some n) → (a ≡ true) × (b ≡ true) × (c ≡ true) × (m ≡ n)
all_held true true true m n is = (refl, refl, refl, cc)
all_held true true false m n is = cc
all_held true false c m n is = cc
all_held false b c m n is = cc

-- the word is the number's decimal digits, and the number is from 1 to 1,000
pub rounds-is : (word : Text) (n : ℕ) → rounds_of word ≡ Some n → (word ≡ decimal n) × (1 ≤ n) × (n ≤ most_rounds)
rounds-is word n is =
    let m = digits_value 10 word in
    let held = all_held (nat_le 1 m) (nat_le m most_rounds) (bytes_eq word (decimal m)) m n is in
    let written = (bytes_eq-Decides word (decimal m)).0 held.2 in
    (written ∙ ap decimal held.3, subst (λ k. 1 ≤ k) held.3 (leb-true 1 m held.0), subst (λ k. k ≤ most_rounds) held.3 (leb-true m most_rounds held.1))

-- the decimal digits of a number from 1 to 1,000 ask for it
pub decimal-rounds : (word : Text) (n : ℕ) → word ≡ decimal n → 1 ≤ n → n ≤ most_rounds → rounds_of word ≡ Some n
decimal-rounds word n is some few =
    let value : digits_value 10 word ≡ n = ap (digits_value 10) is ∙ (decimal_is_IsNumeral n (omega arith)).1 in
    rw (value, le-leb 1 n some, le-leb n most_rounds few, (bytes_eq-Decides word (decimal n)).1 is) refl

-- such a word is read as its number
rounds-read : {E : Type 0} (word : Text) (n : ℕ) (r : Result ℕ E) → ParsesUnsigned 32 10 word r → rounds_of word ≡ Some n → r ≡ Ok n
rounds-read word n r reads is =
    let rounds = rounds-is word n is in parse-decimal 32 n word r (omega (arith, rounds.2)) (omega (arith, rounds.2)) rounds.0 reads

pub number-read : {E : Type 0} (word : Text) (m n : ℕ) (r : Result ℕ E) → ParsesUnsigned 32 10 word r → r ≡ Ok m → rounds_of word ≡ Some n → m ≡ n
number-read {E} word m n r reads ok is =
    let both : ◌≡◌ {A = Result ℕ E} (Ok m) (Ok n) = sym ok ∙ rounds-read word n r reads is in cc

-- and a word that is read as none asks for none
pub never-failed : {E : Type 0} (word : Text) (n : ℕ) (r : Result ℕ E) (e : E) → ParsesUnsigned 32 10 word r → r ≡ Err e → rounds_of word ≡ Some n → ⊥
never-failed {E} word n r e reads err is =
    let both : ◌≡◌ {A = Result ℕ E} (Err e) (Ok n) = sym err ∙ rounds-read word n r reads is in cc

-- a word that asks for no number
pub no-rounds : (word : Text) → ((n : ℕ) → rounds_of word ≡ Some n → ⊥) → None ≡ rounds_of word
no-rounds word none = by_case (rounds_of word) refl where
  by_case : (o : Option ℕ) → rounds_of word ≡ o → None ≡ o
  by_case None e = refl
  by_case (Some n) e = absurd (none n e)
