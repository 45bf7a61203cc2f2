-- Membership in sets of resources, when two sets are equal, and sets as bits.
use Rattle.std.specs.Prelude.{Bool, true, false, ◌≡◌, ◌≢◌, ℕ, zero, suc, ◌+◌, ◌*◌, ◌/◌, ◌%◌, ◌^◌, ◌<◌, ◌≤◌, ◌||◌, nat_lt, nat_eq, max, refl, cond, List, [], ◌∷◌, filter}
use Rattle.std.specs.List.{range_with_len}
use Rattle.std.specs.Int.{bit_at}
use Rattle.std.specs.Int.Bits.{bit_or, bit_and}
use Rattle.std.proofs.Common.{sym, ◌∙◌, ap, arith, subst}
use Rattle.std.proofs.lemmas.Nat.{or_lt, pow_below}
use Rattle.std.proofs.Math.Nat.{mod-eq_of_lt, one-mul}
use Rattle.std.proofs.lemmas.Nat.Bits.{bit_at_or, bit_at-pow_same, bit_at-pow_other, bit_at-lt, bit_at-zero, shr_and_one, same_from_bits_below}
use Rattle.std.proofs.lemmas.Bool.Decides.{nat_tests}
use Rattle.rx_base.specs.Awaits.{Awaits, resource_limit, has, awaits_where, one, union, nothing, is_nothing}
use Rattle.rx_base.specs.AwaitsBits.{awaits_of, bits_of}

-- two tests that agree on the numbers of a range keep the same ones
filter_agree : (p q : ℕ → Bool) (a k : ℕ) → ((n : ℕ) → a ≤ n → n < a + k → p n ≡ q n) → filter p (range_with_len a k) ≡ filter q (range_with_len a k)
filter_agree p q a zero h = refl
filter_agree p q a (suc k) h =
    let here : p a ≡ q a = h a (omega arith) (omega arith) in
    let rest : filter p (range_with_len (a + 1) k) ≡ filter q (range_with_len (a + 1) k) = filter_agree p q (a + 1) k (λ n low high. h n (omega arith) (omega arith)) in
    rw (here, rest) refl

-- two sets of the same resources are equal
pub awaits_agree : (p q : ℕ → Bool) → ((n : ℕ) → n < resource_limit → p n ≡ q n) → awaits_where p ≡ awaits_where q
unfolding awaits_where
awaits_agree p q h = filter_agree p q 0 resource_limit (λ n low high. h n (omega arith))

below_all : (p : ℕ → Bool) (a k n : ℕ) → n < a → has (filter p (range_with_len a k)) n ≡ false
below_all p a zero n h = refl
below_all p a (suc k) n h = first (p a) (below_all p (a + 1) k n (omega arith))
  where
    other : nat_eq a n ≡ false
    other = grind (arith, nat_tests)

    first : (b : Bool) → has (filter p (range_with_len (a + 1) k)) n ≡ false → has (cond b (a ∷ filter p (range_with_len (a + 1) k)) (filter p (range_with_len (a + 1) k))) n ≡ false
    first true rest = rw (other, rest) refl
    first false rest = rest

above_all : (p : ℕ → Bool) (a k n : ℕ) → a + k ≤ n → has (filter p (range_with_len a k)) n ≡ false
above_all p a zero n h = refl
above_all p a (suc k) n h = first (p a) (above_all p (a + 1) k n (omega arith))
  where
    other : nat_eq a n ≡ false
    other = grind (arith, nat_tests)

    first : (b : Bool) → has (filter p (range_with_len (a + 1) k)) n ≡ false → has (cond b (a ∷ filter p (range_with_len (a + 1) k)) (filter p (range_with_len (a + 1) k))) n ≡ false
    first true rest = rw (other, rest) refl
    first false rest = rest

within : (p : ℕ → Bool) (a k n : ℕ) → a ≤ n → n < a + k → has (filter p (range_with_len a k)) n ≡ p n
within p a zero n low high = absurd (omega arith)
within p a (suc k) n low high = go (λ more. within p (a + 1) k n more (omega arith)) (nat_eq a n) refl
  where
    rest : List ℕ
    rest = filter p (range_with_len (a + 1) k)

    here : nat_eq a n ≡ true → (b : Bool) → p a ≡ b → has (cond b (a ∷ rest) rest) n ≡ p n
    here e true h =
        let same : a ≡ n = grind (arith, nat_tests) in
        rw e (sym (ap p (sym same) ∙ h))
    here e false h =
        let same : a ≡ n = grind (arith, nat_tests) in
        below_all p (a + 1) k n (omega arith) ∙ sym (ap p (sym same) ∙ h)

    later : (a + 1 ≤ n → has rest n ≡ p n) → nat_eq a n ≡ false → (b : Bool) → p a ≡ b → has (cond b (a ∷ rest) rest) n ≡ p n
    later next e true h = let more : a + 1 ≤ n = grind (arith, nat_tests) in rw e (next more)
    later next e false h = let more : a + 1 ≤ n = grind (arith, nat_tests) in next more

    go : (a + 1 ≤ n → has rest n ≡ p n) → (b : Bool) → nat_eq a n ≡ b → has (filter p (range_with_len a (suc k))) n ≡ p n
    go next true e = here e (p a) refl
    go next false e = later next e (p a) refl

-- a set has the resources that pass its test
pub has-awaits_where : (p : ℕ → Bool) (n : ℕ) → n < resource_limit → has (awaits_where p) n ≡ p n
unfolding awaits_where
has-awaits_where p n h = within p 0 resource_limit n (omega arith) (omega arith)

-- no set has a resource of a number that a program doesn't reach
pub has-awaits_where_above : (p : ℕ → Bool) (n : ℕ) → resource_limit ≤ n → has (awaits_where p) n ≡ false
unfolding awaits_where
has-awaits_where_above p n h = above_all p 0 resource_limit n (omega arith)

pub has-awaits_of : (bits n : ℕ) → n < resource_limit → has (awaits_of bits) n ≡ nat_eq (bit_at bits n) 1
has-awaits_of bits n h = has-awaits_where (λ r. nat_eq (bit_at bits r) 1) n h

pub has_above : (bits n : ℕ) → resource_limit ≤ n → has (awaits_of bits) n ≡ false
has_above bits n h = has-awaits_where_above (λ r. nat_eq (bit_at bits r) 1) n h

pub has_by_shift : (bits n : ℕ) → n < resource_limit → nat_eq (bit_and (bits / 2 ^ n) 1) 1 ≡ has (awaits_of bits) n
has_by_shift bits n h = ap (λ x. nat_eq x 1) (shr_and_one bits n) ∙ sym (has-awaits_of bits n h)

is_one_max : (x y : ℕ) → x < 2 → y < 2 → nat_eq (max x y) 1 ≡ (nat_eq x 1 || nat_eq y 1)
is_one_max x y hx hy = grind (arith, nat_tests)

pub awaits_of-bit_or : (a b : ℕ) → awaits_of (bit_or a b) ≡ union (awaits_of a) (awaits_of b)
awaits_of-bit_or a b = awaits_agree _ _ (λ r h.
    ap (λ n. nat_eq n 1) (bit_at_or a b r) ∙ is_one_max (bit_at a r) (bit_at b r) (bit_at-lt a r) (bit_at-lt b r)
    ∙ sym (ap (λ x. x || has (awaits_of b) r) (has-awaits_of a r h) ∙ ap (λ y. nat_eq (bit_at a r) 1 || y) (has-awaits_of b r h)))

pub bit_or_below : (a b : ℕ) → a < 2 ^ 64 → b < 2 ^ 64 → bit_or a b < 2 ^ 64
bit_or_below a b ha hb = or_lt 64 a b ha hb

pub awaits_of-zero : awaits_of 0 ≡ nothing
unfolding awaits_where
awaits_of-zero = refl

one_bit : (l k : ℕ) → nat_eq (bit_at (2 ^ l) k) 1 ≡ nat_eq l k
one_bit l k = go (nat_eq l k) refl
  where
    go : (b : Bool) → nat_eq l k ≡ b → nat_eq (bit_at (2 ^ l) k) 1 ≡ b
    go true e = let same : l ≡ k = grind (arith, nat_tests) in subst (λ i. nat_eq (bit_at (2 ^ l) i) 1 ≡ true) same (ap (λ n. nat_eq n 1) (bit_at-pow_same l))
    go false e = let other : k ≢ l = grind (arith, nat_tests) in ap (λ n. nat_eq n 1) (bit_at-pow_other l k other)

shifted : (l : ℕ) → l < 64 → 1 * 2 ^ l % 2 ^ 64 ≡ 2 ^ l
shifted l h = ap (λ n. n % 2 ^ 64) (one-mul (2 ^ l)) ∙ mod-eq_of_lt (pow_below l 64 (omega arith))

pub awaits_of-one : (l : ℕ) → l < resource_limit → awaits_of (1 * 2 ^ l % 2 ^ 64) ≡ one l
awaits_of-one l h = ap awaits_of (shifted l h) ∙ awaits_agree _ _ (λ k lt. one_bit l k)

pub one_below : (l : ℕ) → l < resource_limit → 1 * 2 ^ l % 2 ^ 64 < 2 ^ 64
one_below l h = subst (λ n. n < 2 ^ 64) (sym (shifted l h)) (pow_below l 64 h)

-- the resources of a set are below the limit

all_below : List ℕ → Bool
all_below [] = true
all_below (r ∷ rs) = cond (nat_lt r 64) (all_below rs) false

filter_below : (p : ℕ → Bool) (a k : ℕ) → a + k ≤ 64 → all_below (filter p (range_with_len a k)) ≡ true
unfolding all_below
filter_below p a zero h = refl
filter_below p a (suc k) h = go (p a) (filter_below p (a + 1) k (omega arith))
  where
    small : nat_lt a 64 ≡ true
    small = grind (arith, nat_tests)

    go : (b : Bool) → all_below (filter p (range_with_len (a + 1) k)) ≡ true → all_below (cond b (a ∷ filter p (range_with_len (a + 1) k)) (filter p (range_with_len (a + 1) k))) ≡ true
    go true rest = rw (small, rest) refl
    go false rest = rest

-- a number's bits are back from its set

bits_of-lt : (rs : Awaits) → all_below rs ≡ true → bits_of rs < 2 ^ 64
unfolding all_below
bits_of-lt [] e = omega arith
bits_of-lt (r ∷ rs) e = go (λ rest. bits_of-lt rs rest) (nat_lt r 64) refl e
  where
    go : (all_below rs ≡ true → bits_of rs < 2 ^ 64) → (b : Bool) → nat_lt r 64 ≡ b → cond b (all_below rs) false ≡ true → bit_or (2 ^ r) (bits_of rs) < 2 ^ 64
    go next true f e = let small : r < 64 = grind (arith, nat_tests) in or_lt 64 (2 ^ r) (bits_of rs) (pow_below r 64 small) (next e)
    go next false f e = absurd (cc)

bit_of-bits_of : (rs : Awaits) (m : ℕ) → nat_eq (bit_at (bits_of rs) m) 1 ≡ has rs m
bit_of-bits_of [] m = ap (λ n. nat_eq n 1) (bit_at-zero m)
bit_of-bits_of (r ∷ rs) m =
    ap (λ n. nat_eq n 1) (bit_at_or (2 ^ r) (bits_of rs) m)
    ∙ is_one_max (bit_at (2 ^ r) m) (bit_at (bits_of rs) m) (bit_at-lt _ _) (bit_at-lt _ _)
    ∙ ap (λ x. x || nat_eq (bit_at (bits_of rs) m) 1) (one_bit r m)
    ∙ ap (λ y. nat_eq r m || y) (bit_of-bits_of rs m)

same_bit : (x y : ℕ) → x < 2 → y < 2 → nat_eq x 1 ≡ nat_eq y 1 → x ≡ y
same_bit x y hx hy e = grind (arith, nat_tests)

bits_of_set-lt : (bits : ℕ) → bits_of (awaits_of bits) < 2 ^ 64
unfolding awaits_where
bits_of_set-lt bits = bits_of-lt _ (filter_below (λ r. nat_eq (bit_at bits r) 1) 0 64 (omega arith))

pub bits_of-awaits_of : (bits : ℕ) → bits < 2 ^ 64 → bits_of (awaits_of bits) ≡ bits
bits_of-awaits_of bits h = same_from_bits_below 64 (bits_of (awaits_of bits)) bits (bits_of_set-lt bits) h (λ i lt.
    same_bit _ _ (bit_at-lt _ _) (bit_at-lt _ _) (bit_of-bits_of (awaits_of bits) i ∙ has-awaits_of bits i lt))

-- a set is empty if no bit is set
pub is_nothing-awaits_of : (bits : ℕ) → bits < 2 ^ 64 → nat_eq bits 0 ≡ is_nothing (awaits_of bits)
is_nothing-awaits_of bits h = go (awaits_of bits) refl
  where
    zero_bits : awaits_of bits ≡ [] → bits ≡ 0
    zero_bits e = sym (bits_of-awaits_of bits h) ∙ ap bits_of e

    none_of_zero : (n : ℕ) → n ≡ 0 → awaits_of n ≡ []
    none_of_zero n e = ap awaits_of e ∙ awaits_of-zero

    same : bits ≡ 0 → nat_eq bits 0 ≡ true
    same e = rw e refl

    equal : nat_eq bits 0 ≡ true → bits ≡ 0
    equal e = grind (arith, nat_tests)

    some : (b : Bool) → nat_eq bits 0 ≡ b → (r : ℕ) (rs : Awaits) → awaits_of bits ≡ r ∷ rs → b ≡ false
    some true t r rs e = let w : awaits_of bits ≡ [] = none_of_zero bits (equal t) in absurd (cc)
    some false t r rs e = refl

    go : (rs : Awaits) → awaits_of bits ≡ rs → nat_eq bits 0 ≡ is_nothing rs
    go [] e = same (zero_bits e)
    go (r ∷ rs) e = some (nat_eq bits 0) refl r rs e
