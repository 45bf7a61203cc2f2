-- The bits of numbers in a table once one more is set.
use Rattle.std.proofs.Common.{◌≡◌, ◌⊎◌, inl, inr, ℕ, ◌/◌, ◌%◌, ◌^◌, ◌*◌, ◌<◌, Bool, true, false, nat_eq, max, bit_or, List, length, get_or, set, refl, sym, ap, ◌∙◌, arith}
use Rattle.std.specs.Prelude.{◌||◌}
use Rattle.std.specs.Int.{bit_at}
use Rattle.std.proofs.lemmas.Bool.{cases_eq}
use Rattle.std.proofs.lemmas.Bool.Decides.{nat_tests}
use Rattle.std.proofs.lemmas.List.{get_or-set_same, get_or-set_other}
use Rattle.std.proofs.lemmas.Nat.{one_shl}
use Rattle.std.proofs.lemmas.Nat.Bits.{bit_at-lt, bit_at_or, bit_at-pow_other, bit_at-pow_same}
use Rattle.rx_ways.specs.WaySets.{has_bit}

or_none : (b : Bool) → b ≡ (b || false)
or_none true = refl
or_none false = refl

is_one_max : (x y : ℕ) → x < 2 → y < 2 → nat_eq (max x y) 1 ≡ (nat_eq x 1 || nat_eq y 1)
is_one_max x y hx hy = grind (arith, nat_tests)

-- of a power of two one bit is set
one_bit : (k i : ℕ) → nat_eq (bit_at (2 ^ k) i) 1 ≡ nat_eq i k
one_bit k i = go (cases_eq i k)
  where
    go : (i ≡ k) ⊎ (i ≡ k → ⊥) → nat_eq (bit_at (2 ^ k) i) 1 ≡ nat_eq i k
    go (inl same) = let set_there : bit_at (2 ^ k) i ≡ 1 = ap (bit_at (2 ^ k)) same ∙ bit_at-pow_same k in grind (arith, nat_tests, set_there, same)
    go (inr apart) = let none : bit_at (2 ^ k) i ≡ 0 = bit_at-pow_other k i apart in grind (arith, nat_tests, none, apart)

-- once one bit of a word was set, another is set if it was, or if it is that one
bit_more : (word k i : ℕ) → k < 64 → nat_eq (bit_at (bit_or word (1 * 2 ^ k % 2 ^ 64)) i) 1 ≡ (nat_eq (bit_at word i) 1 || nat_eq i k)
bit_more word k i small =
    ap (λ mask. nat_eq (bit_at (bit_or word mask) i) 1) (one_shl k 64 small)
    ∙ ap (λ b. nat_eq b 1) (bit_at_or word (2 ^ k) i)
    ∙ is_one_max (bit_at word i) (bit_at (2 ^ k) i) (bit_at-lt word i) (bit_at-lt (2 ^ k) i)
    ∙ ap (λ b. nat_eq (bit_at word i) 1 || b) (one_bit k i)

module _ (words : List ℕ) (number word : ℕ) (inside : number / 64 < length words) (more : (i : ℕ) → nat_eq (bit_at word i) 1 ≡ (nat_eq (bit_at (get_or words (number / 64) 0) i) 1 || nat_eq i (number % 64))) where
  -- with another word the bit of a number is set if it was, or if the number is the one whose bit is set there
  bits_with : (n : ℕ) → has_bit (set words (number / 64) word) n ≡ (has_bit words n || nat_eq n number)
  bits_with n = go (cases_eq (n / 64) (number / 64))
    where
      go : (n / 64 ≡ number / 64) ⊎ (n / 64 ≡ number / 64 → ⊥) → has_bit (set words (number / 64) word) n ≡ (has_bit words n || nat_eq n number)
      go (inl same) =
          let as_one : nat_eq (n % 64) (number % 64) ≡ nat_eq n number = grind (arith, nat_tests, same) in
          ap (λ w. nat_eq (bit_at w (n % 64)) 1) (ap (λ p. get_or (set words (number / 64) word) p 0) same ∙ get_or-set_same words (number / 64) word 0 inside)
          ∙ more (n % 64)
          ∙ ap (λ p. nat_eq (bit_at (get_or words p 0) (n % 64)) 1 || nat_eq (n % 64) (number % 64)) (sym same)
          ∙ ap (λ b. has_bit words n || b) as_one
      go (inr apart) =
          let other : nat_eq n number ≡ false = grind (arith, nat_tests, apart) in
          ap (λ w. nat_eq (bit_at w (n % 64)) 1) (get_or-set_other words (number / 64) (n / 64) word 0 apart)
          ∙ or_none (has_bit words n)
          ∙ ap (λ b. has_bit words n || b) (sym other)

-- once the bit of one number was set, that of another is set if it was, or if it is the same number
pub more_bits : (words : List ℕ) (number : ℕ) → number / 64 < length words → (n : ℕ)
    → has_bit (set words (number / 64) (bit_or (get_or words (number / 64) 0) (1 * 2 ^ (number % 64) % 2 ^ 64))) n ≡ (has_bit words n || nat_eq n number)
more_bits words number inside =
    bits_with words number (bit_or (get_or words (number / 64) 0) (1 * 2 ^ (number % 64) % 2 ^ 64)) inside
    (λ i. bit_more (get_or words (number / 64) 0) (number % 64) i (omega arith))
