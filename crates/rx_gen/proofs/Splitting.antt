-- Where texts are cut, and their decimal numbers.
use Rattle.std.proofs.Common.{◌≡◌, ℕ, ◌+◌, ◌-◌, ◌*◌, ◌^◌, ◌<◌, ◌≤◌, ◌==◌, ◌&&◌, ◌||◌, not, Bool, true, false, List, [], ◌∷◌, ◌++◌, length, refl, ap, ◌∙◌, arith, nat_le, nat_lt, nat_eq, Some, get_or}
use Rattle.std.specs.Prelude.{decimal, fold, pos}
use Rattle.std.specs.List.{list_all, slice_split, onto_first}
use Rattle.std.specs.Char.{is_ascii_digit}
use Rattle.std.proofs.lemmas.Bool.{leb-true, le-leb}
use Rattle.std.proofs.lemmas.List.Splits.{slice_split-cons_no, slice_split-cons_yes}
use Rattle.std.proofs.lemmas.Str.Parse.{IsDigitsTest, FoldsDigits, IsNumeralModel, numerals_by_fold}
use Rattle.std.proofs.lemmas.Fmt.{digits_decimal, digits_value-decimal, first_decimal, decimal_nonempty, decimal_digit}
use Rattle.rx_base.specs.Values.{Text}
use Rattle.rx_script.specs.Words.{value_of, is_decimal, natural_of, integer_of}
use Rattle.rx_gen.proofs.Covering.{both-true, not-true}

-- no byte passes the test
abbrev pub without : (ℕ → Bool) → Text → Bool
without p [] = true
without p (b ∷ bs) = not (p b) && without p bs

-- both hold
both : (a b : Bool) → a ≡ true → b ≡ true → (a && b) ≡ true
both a b e f = (λ i. e i && f i)

pub without-append : (p : ℕ → Bool) (xs ys : Text) → without p xs ≡ true → without p ys ≡ true → without p (xs ++ ys) ≡ true
without-append p [] ys h k = k
without-append p (b ∷ xs) ys h k =
    let m = both-true (not (p b)) (without p xs) h in both (not (p b)) (without p (xs ++ ys)) m.0 (without-append p xs ys m.1 k)

-- if no byte passes, the text is the one part
pub split-none : (p : ℕ → Bool) (xs : Text) → without p xs ≡ true → slice_split p xs ≡ xs ∷ []
split-none p [] h = refl
split-none p (b ∷ xs) h =
    let m = both-true (not (p b)) (without p xs) h in
    slice_split-cons_no p b xs (not-true (p b) m.0) ∙ ap (onto_first b) (split-none p xs m.1)

-- the first part ends at the first byte that passes
pub split-at : (p : ℕ → Bool) (xs : Text) (c : ℕ) (ys : Text) → without p xs ≡ true → p c ≡ true → slice_split p (xs ++ c ∷ ys) ≡ xs ∷ slice_split p ys
split-at p [] c ys h e = slice_split-cons_yes p c ys e
split-at p (b ∷ xs) c ys h e =
    let m = both-true (not (p b)) (without p xs) h in
    slice_split-cons_no p b (xs ++ c ∷ ys) (not-true (p b) m.0) ∙ ap (onto_first b) (split-at p xs c ys m.1 e)

-- Numbers

-- each byte is a digit
abbrev pub AreDigits : Text → Type 0
AreDigits w = list_all is_ascii_digit w ≡ true

-- the test of digits
tells : IsDigitsTest AreDigits
tells = record {
  empty = refl;
  parts = λ c cs h.
      let k = both-true (is_ascii_digit c) (list_all is_ascii_digit cs) h in
      let m = both-true (nat_le 48 c) (nat_le c 57) k.0 in
      ((leb-true 48 c m.0, leb-true c 57 m.1), k.1);
  more = λ c cs k h i. (le-leb 48 c k.0 i && le-leb c 57 k.1 i) && h i;
}

-- a number read on by further digits
abbrev read_on : ℕ → List ℕ → ℕ
read_on n digits = fold (λ m d. 10 * m + (d - 48)) n digits

-- it reads digits
reads : FoldsDigits read_on
reads = record { empty = λ n. refl; more = λ n c cs k. let e : 10 * n + (c - 48) ≡ n * 10 + (c - 48) = omega arith in ap (λ m. read_on m cs) e }

-- so digits are numerals with these values
numerals : IsNumeralModel AreDigits value_of
numerals = numerals_by_fold AreDigits tells read_on reads

-- a decimal text is digits
pub decimal-digits : (n : ℕ) → n < 2 ^ 64 → AreDigits (decimal n)
decimal-digits n h = digits_decimal numerals n h

-- a byte that is no digit stands in no number
pub digits-without : (p : ℕ → Bool) → ((b : ℕ) → is_ascii_digit b ≡ true → p b ≡ false) → (w : Text) → AreDigits w → without p w ≡ true
digits-without p apart [] h = refl
digits-without p apart (b ∷ w) h =
    let m = both-true (is_ascii_digit b) (list_all is_ascii_digit w) h in
    let e = apart b m.0 in
    both (not (p b)) (without p w) (ap not e) (digits-without p apart w m.1)

-- where a digit lies
pub in-digits : (b : ℕ) → is_ascii_digit b ≡ true → (48 ≤ b) × (b ≤ 57)
in-digits b h = let m = both-true (nat_le 48 b) (nat_le b 57) h in (leb-true 48 b m.0, leb-true b 57 m.1)

-- two numbers that differ
pub is-not : (a b : ℕ) → (a ≡ b → ⊥) → (a == b) ≡ false
is-not a b h = grind arith

-- what is told of several digits
no-lead : (len b : ℕ) → 1 < len → 48 < b → ((len == 1) || (nat_lt 1 len && not (b == 48))) ≡ true
no-lead len b h k = grind arith

-- a decimal text is one digit, or does not begin with 0
shaped : (n : ℕ) → n < 2 ^ 64 → ((length (decimal n) == 1) || (nat_lt 1 (length (decimal n)) && not (get_or (decimal n) 0 0 == 48))) ≡ true
shaped n h = go (nat_lt 0 n) (nat_eq (length (decimal n)) 1) refl refl
  where
    go : (a b : Bool) → nat_lt 0 n ≡ a → nat_eq (length (decimal n)) 1 ≡ b → ((length (decimal n) == 1) || (nat_lt 1 (length (decimal n)) && not (get_or (decimal n) 0 0 == 48))) ≡ true
    go a true e f = ap (λ (x : Bool). x || (nat_lt 1 (length (decimal n)) && not (get_or (decimal n) 0 0 == 48))) f
    go true false e f =
        no-lead (length (decimal n)) (get_or (decimal n) 0 0) (let some = decimal_nonempty n h in grind (arith, some, f)) (first_decimal n (grind (arith, e)) h)
    go false false e f = let none : n ≡ 0 = grind (arith, e) in
        let one : length (decimal n) ≡ 1 = ap (λ (k : ℕ). length (decimal k)) none ∙ ap length (decimal_digit 0 (omega arith)) in grind (arith, one, f)

-- a number is read from its decimal text
pub natural-of-decimal : (n : ℕ) → n < 2 ^ 64 → natural_of (decimal n) ≡ Some n
natural-of-decimal n h =
    let good : is_decimal (decimal n) ≡ true = both (list_all is_ascii_digit (decimal n)) ((length (decimal n) == 1) || (nat_lt 1 (length (decimal n)) && not (get_or (decimal n) 0 0 == 48))) (decimal-digits n h) (shaped n h) in
    let value : value_of (decimal n) ≡ n = digits_value-decimal numerals n h in
    rw good (ap (λ (k : ℕ). Some k) value)

-- and so is one that may have a sign
pub integer-of-natural : (w : Text) (n : ℕ) → AreDigits w → natural_of w ≡ Some n → integer_of w ≡ Some (pos n)
integer-of-natural [] n d h = cc
integer-of-natural (b ∷ w) n d h =
    let range : (48 ≤ b) × (b ≤ 57) = in-digits b (both-true (is_ascii_digit b) (list_all is_ascii_digit w) d).0 in
    let other : (b == 45) ≡ false = is-not b 45 (λ e. omega arith) in
    rw (other, h) refl
