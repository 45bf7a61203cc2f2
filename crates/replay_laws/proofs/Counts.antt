-- How many hosts of a tree have a number, and what numbering adds.
use Rattle.std.specs.Prelude.{◌≡◌, ℕ, ◌+◌, ◌<◌, ◌≤◌, Bool, true, false, cond, ◌&&◌, ◌∷◌, Option, Some, None, nat_eq, nat_le, nat_lt, refl}
use Rattle.std.proofs.Common.{arith, ap, le_trans}
use Rattle.std.proofs.lemmas.Bool.Decides.{nat_tests}
use Rattle.rx_elem.specs.Elements as elements
use Rattle.rx_elem.specs.Trees.{Mark, of_instance, of_host, of_boundary, of_catcher, plain, Node, node, Forest, none, vacant, child, host_number, elements_in}
use Rattle.rx_elem.specs.Numbers.{Numbers, numbered, numbered_in, numbered_mark, numbered_instance, numbered_host}

-- a number that may be missing is this one
abbrev pub is_number : ℕ → Option ℕ → Bool
is_number n None = false
is_number n (Some k) = nat_eq n k

abbrev pub one_if : Bool → ℕ
one_if b = cond b 1 0

-- how many hosts of a tree have this number
abbrev mutual
  pub times : ℕ → Node → ℕ
  times n (node e m ns fs) = one_if (is_number n (host_number m)) + (times_in n ns + times_in n fs)

  pub times_in : ℕ → Forest → ℕ
  times_in n none = 0
  times_in n (vacant ns) = times_in n ns
  times_in n (child x ns) = times n x + times_in n ns

abbrev pub times_if : ℕ → Option Node → ℕ
times_if n None = 0
times_if n (Some x) = times n x

-- Numbering

pub elements_stay : (c : Numbers) (ns : Forest) → elements_in (numbered_in c ns).1 ≡ elements_in ns
elements_stay c none = refl
elements_stay c (vacant ns) = ap (λ es. elements.null ∷ es) (elements_stay c ns)
elements_stay c (child (node e m ps fs) ns) = ap (λ es. e ∷ es) (elements_stay (numbered c (node e m ps fs)).0 ns)

pub mark_rises : (c : Numbers) (m : Mark) → c.host ≤ (numbered_mark c m).0.host
mark_rises c (of_instance i) = go i.number
  where
    go : (n : Option ℕ) → c.host ≤ (numbered_instance c i n).0.host
    go None = omega arith
    go (Some n) = omega arith
mark_rises c (of_host h) = go h
  where
    go : (n : Option ℕ) → c.host ≤ (numbered_host c n).0.host
    go None = omega arith
    go (Some n) = omega arith
mark_rises c plain = omega arith
mark_rises c (of_boundary b) = omega arith
mark_rises c (of_catcher z) = omega arith

mutual
  pub number_rises : (c : Numbers) (x : Node) → c.host ≤ (numbered c x).0.host
  number_rises c (node e m ns fs) =
      omega (arith, mark_rises c m, numbers_rise (numbered_mark c m).0 ns, numbers_rise (numbered_in (numbered_mark c m).0 ns).0 fs)

  pub numbers_rise : (c : Numbers) (ns : Forest) → c.host ≤ (numbered_in c ns).0.host
  numbers_rise c none = omega arith
  numbers_rise c (vacant ns) = numbers_rise c ns
  numbers_rise c (child x ns) = omega (arith, number_rises c x, numbers_rise (numbered c x).0 ns)

-- one if a number lies in a range
abbrev pub between : ℕ → ℕ → ℕ → ℕ
between a b n = one_if (nat_le a n && nat_lt n b)

between_parts : (a b c n : ℕ) → a ≤ b → b ≤ c → between a b n + between b c n ≡ between a c n
between_parts a b c n h k = go (nat_le a n) (nat_lt n b) (nat_le b n) (nat_lt n c) refl refl refl refl
  where
    go : (p q r t : Bool) → nat_le a n ≡ p → nat_lt n b ≡ q → nat_le b n ≡ r → nat_lt n c ≡ t → one_if (p && q) + one_if (r && t) ≡ one_if (p && t)
    go true true true t e f g i = absurd (grind (arith, nat_tests))
    go true true false true e f g i = refl
    go true true false false e f g i = absurd (grind (arith, nat_tests))
    go true false true true e f g i = refl
    go true false true false e f g i = refl
    go true false false t e f g i = absurd (grind (arith, nat_tests))
    go false q true t e f g i = absurd (grind (arith, nat_tests))
    go false q false t e f g i = refl

next_between : (a n : ℕ) → one_if (nat_eq n a) ≤ between a (a + 1) n
next_between a n = go (nat_eq n a) (nat_le a n) (nat_lt n (a + 1)) refl refl refl
  where
    go : (p q r : Bool) → nat_eq n a ≡ p → nat_le a n ≡ q → nat_lt n (a + 1) ≡ r → one_if p ≤ one_if (q && r)
    go true true true e f g = omega arith
    go true true false e f g = absurd (grind (arith, nat_tests))
    go true false r e f g = absurd (grind (arith, nat_tests))
    go false q r e f g = omega arith

mark_counts : (n : ℕ) (c : Numbers) (m : Mark)
    → one_if (is_number n (host_number (numbered_mark c m).1)) ≤ one_if (is_number n (host_number m)) + between c.host (numbered_mark c m).0.host n
mark_counts n c (of_instance i) = go i.number
  where
    go : (k : Option ℕ) → one_if (is_number n (host_number (numbered_instance c i k).1)) ≤ 0 + between c.host (numbered_instance c i k).0.host n
    go None = omega arith
    go (Some k) = omega arith
mark_counts n c (of_host h) = go h
  where
    go : (k : Option ℕ) → one_if (is_number n (host_number (numbered_host c k).1)) ≤ one_if (is_number n k) + between c.host (numbered_host c k).0.host n
    go None = omega (arith, next_between c.host n)
    go (Some k) = omega arith
mark_counts n c plain = omega arith
mark_counts n c (of_boundary b) = omega arith
mark_counts n c (of_catcher z) = omega arith

mutual
  -- a number that numbering gives stands once more at most
  pub numbered_counts : (n : ℕ) (c : Numbers) (x : Node) → times n (numbered c x).1 ≤ times n x + between c.host (numbered c x).0.host n
  numbered_counts n c (node e m ns fs) =
      omega (
        arith,
        mark_counts n c m,
        all_numbered_count n (numbered_mark c m).0 ns,
        all_numbered_count n (numbered_in (numbered_mark c m).0 ns).0 fs,
        between_parts c.host (numbered_mark c m).0.host (numbered_in (numbered_mark c m).0 ns).0.host n (mark_rises c m) (numbers_rise (numbered_mark c m).0 ns),
        between_parts c.host (numbered_in (numbered_mark c m).0 ns).0.host (numbered_in (numbered_in (numbered_mark c m).0 ns).0 fs).0.host n
            (le_trans (mark_rises c m) (numbers_rise (numbered_mark c m).0 ns)) (numbers_rise (numbered_in (numbered_mark c m).0 ns).0 fs),
      )

  all_numbered_count : (n : ℕ) (c : Numbers) (ns : Forest) → times_in n (numbered_in c ns).1 ≤ times_in n ns + between c.host (numbered_in c ns).0.host n
  all_numbered_count n c none = omega arith
  all_numbered_count n c (vacant ns) = all_numbered_count n c ns
  all_numbered_count n c (child x ns) =
      omega (
        arith,
        numbered_counts n c x,
        all_numbered_count n (numbered c x).0 ns,
        between_parts c.host (numbered c x).0.host (numbered_in (numbered c x).0 ns).0.host n (number_rises c x) (numbers_rise (numbered c x).0 ns),
      )

pub no_more_than_one : (a b n : ℕ) → between a b n ≤ 1
no_more_than_one a b n = go (nat_le a n && nat_lt n b)
  where
    go : (p : Bool) → one_if p ≤ 1
    go true = omega arith
    go false = omega arith

pub not_below : (a b n : ℕ) → n < a → between a b n ≤ 0
not_below a b n h = go (nat_le a n) (nat_lt n b) refl
  where
    go : (p q : Bool) → nat_le a n ≡ p → one_if (p && q) ≤ 0
    go true q e = absurd (grind (arith, nat_tests))
    go false q e = omega arith

pub not_above : (a b n : ℕ) → b ≤ n → between a b n ≤ 0
not_above a b n h = go (nat_le a n) (nat_lt n b) refl
  where
    go : (p q : Bool) → nat_lt n b ≡ q → one_if (p && q) ≤ 0
    go p true e = absurd (grind (arith, nat_tests))
    go true false e = omega arith
    go false false e = omega arith
