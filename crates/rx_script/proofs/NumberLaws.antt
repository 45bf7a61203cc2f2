-- A word that is read as a number is the decimal text of that number.
use Rattle.std.proofs.Common.{◌≡◌, ◌∙◌, sym, ap, ℕ, ◌+◌, ◌-◌, ◌*◌, ◌^◌, ◌<◌, ◌==◌, not, Bool, true, false, ◌&&◌, ◌||◌, List, length, get_or, Some, None, refl, arith, nat_lt, nat_le}
use Rattle.std.specs.Prelude.{decimal, fold}
use Rattle.std.specs.List.{list_all}
use Rattle.std.specs.Char.{is_ascii_digit}
use Rattle.std.proofs.lemmas.Bool.{leb-true, le-leb}
use Rattle.std.proofs.lemmas.Str.Parse.{IsDigitsTest, FoldsDigits, IsNumeralModel, numerals_by_fold}
use Rattle.std.proofs.lemmas.Fmt.{decimal-digits_value}
use Rattle.rx_base.specs.Values.{Text}
use Rattle.rx_script.specs.Words.{value_of, is_decimal, natural_of}

abbrev AreDigits : List ℕ → Type 0
AreDigits w = list_all is_ascii_digit w ≡ true

both-true : (a b : Bool) → (a && b) ≡ true → (a ≡ true) × (b ≡ true)
both-true true b h = (refl, h)
both-true false b h = cc

tells : IsDigitsTest AreDigits
tells = record {
  empty = refl;
  parts = λ c cs h.
      let k = both-true (is_ascii_digit c) (list_all is_ascii_digit cs) h in
      let m = both-true (nat_le 48 c) (nat_le c 57) k.0 in
      ((leb-true 48 c m.0, leb-true c 57 m.1), k.1);
  more = λ c cs k h i. (le-leb 48 c k.0 i && le-leb c 57 k.1 i) && h i;
}

abbrev read_on : ℕ → List ℕ → ℕ
read_on n digits = fold (λ m d. 10 * m + (d - 48)) n digits

reads : FoldsDigits read_on
reads = record { empty = λ n. refl; more = λ n c cs k. let e : 10 * n + (c - 48) ≡ n * 10 + (c - 48) = omega arith in ap (λ m. read_on m cs) e }

numerals : IsNumeralModel AreDigits value_of
numerals = numerals_by_fold AreDigits tells read_on reads

-- what follows the digits' test: there is one digit, or the first isn't 0
no-lead : (n b : ℕ) → ((n == 1) || (nat_lt 1 n && not (b == 48))) ≡ true → (0 < n) × (b ≡ 48 → n ≡ 1)
no-lead n b h = (grind (arith, h), λ e. grind (arith, h, e))

numeral-decimal : (w : Text) → is_decimal w ≡ true → value_of w < 2 ^ 64 → decimal (value_of w) ≡ w
numeral-decimal w h small =
    let k = both-true (list_all is_ascii_digit w) ((length w == 1) || (nat_lt 1 (length w) && not (get_or w 0 0 == 48))) h in
    let m = no-lead (length w) (get_or w 0 0) k.1 in
    decimal-digits_value numerals w k.0 m.0 m.1 small

none-some : (n : ℕ) → None ≡ Some n → ⊥
none-some n h = cc

some-same : (m n : ℕ) → Some m ≡ Some n → m ≡ n
some-same m n h = cc

-- each number has one spelling
pub natural-decimal : (w : Text) (n : ℕ) → natural_of w ≡ Some n → n < 2 ^ 64 → decimal n ≡ w
natural-decimal w n h small = go (is_decimal w) refl
  where
    go : (b : Bool) → is_decimal w ≡ b → decimal n ≡ w
    go true e = let same : value_of w ≡ n = some-same (value_of w) n (rw e at h) in ap decimal (sym same) ∙ numeral-decimal w e (omega (arith, same, small))
    go false e = absurd (none-some n (rw e at h))
