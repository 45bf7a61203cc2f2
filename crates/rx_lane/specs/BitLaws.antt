-- Sets of lanes as bits.
use Rattle.std.specs.Prelude.{Bool, true, false, ◌≡◌, ◌≢◌, ℕ, zero, suc, slice_index_or, ◌+◌, ◌-◌, ◌*◌, ◌/◌, ◌%◌, ◌^◌, ◌<◌, ◌≤◌, nat_lt, ◌||◌, ◌&&◌, nat_eq, max, min, not, refl, List, [], ◌∷◌, Some}
use Rattle.std.specs.List.{find}
use Rattle.std.specs.Int.{bit_at, bit_not, trailing_zeros, w32}
use Rattle.std.specs.Int.Bits.{bit_or, bit_and}
use Rattle.std.proofs.Common.{sym, ◌∙◌, ap, arith, subst, add-zero, zero-add, length}
use Rattle.std.proofs.lemmas.Nat.{or_lt, pow_below, and_le_l}
use Rattle.std.proofs.Math.Nat.{mod-eq_of_lt, one-mul}
use Rattle.std.proofs.lemmas.Nat.Bits.{bit_at_or, bit_at_and, bit_at_not, bit_at-pow_same, bit_at-pow_other, bit_at-lt, bit_at-zero, shr_and_one, bit_at-trailing_zeros, bit_at_above, same_from_bits_below}
use Rattle.std.proofs.lemmas.Bool.Decides.{nat_tests}
use Rattle.rx_lane.specs.declared.lane.Lane.{Lane}
use Rattle.rx_lane.specs.declared.lane.Lane.TheVariants.{Sync, Input, Default, T1, T2, T3, T4, T5, T6, T7, T8, T9, T10, T11, T12, T13, T14, T15, T16, Retry}
use Rattle.rx_lane.specs.Lanes.{Lanes, priority, all_lanes, has, lanes_where, one, union, minus, intersection, transitions, is_transition, meets, within, is_empty, highest, only_transitions, no_lanes}
use Rattle.rx_lane.specs.LaneBits.{lanes_of, bits_of}
use Rattle.rx_lane.specs.SetLaws.{lane_at, nat_eq-true, has-lanes_where, lanes_agree, highest-lanes_where, meets-lanes_where, within-lanes_where, list_all-agree, find-first}

pub priority-lt : (l : Lane) → priority l < 20
priority-lt Sync = omega arith
priority-lt Input = omega arith
priority-lt Default = omega arith
priority-lt T1 = omega arith
priority-lt T2 = omega arith
priority-lt T3 = omega arith
priority-lt T4 = omega arith
priority-lt T5 = omega arith
priority-lt T6 = omega arith
priority-lt T7 = omega arith
priority-lt T8 = omega arith
priority-lt T9 = omega arith
priority-lt T10 = omega arith
priority-lt T11 = omega arith
priority-lt T12 = omega arith
priority-lt T13 = omega arith
priority-lt T14 = omega arith
priority-lt T15 = omega arith
priority-lt T16 = omega arith
priority-lt Retry = omega arith

is_one_max : (x y : ℕ) → x < 2 → y < 2 → nat_eq (max x y) 1 ≡ (nat_eq x 1 || nat_eq y 1)
is_one_max x y hx hy = grind (arith, nat_tests)

is_one_min : (x y : ℕ) → x < 2 → y < 2 → nat_eq (min x (1 - y)) 1 ≡ (nat_eq x 1 && not (nat_eq y 1))
is_one_min x y hx hy = grind (arith, nat_tests)

-- a lane is in the set of a number if its bit is set
pub has-lanes_of : (bits : ℕ) (l : Lane) → has (lanes_of bits) l ≡ nat_eq (bit_at bits (priority l)) 1
has-lanes_of bits l = has-lanes_where (λ m. nat_eq (bit_at bits (priority m)) 1) l

pub has_by_shift : (bits : ℕ) (l : Lane) → nat_eq (bit_and (bits / 2 ^ priority l) 1) 1 ≡ has (lanes_of bits) l
has_by_shift bits l = ap (λ n. nat_eq n 1) (shr_and_one bits (priority l)) ∙ sym (has-lanes_of bits l)

pub lanes_of-bit_or : (a b : ℕ) → lanes_of (bit_or a b) ≡ union (lanes_of a) (lanes_of b)
lanes_of-bit_or a b = lanes_agree _ _ (λ l.
    ap (λ n. nat_eq n 1) (bit_at_or a b (priority l)) ∙ is_one_max (bit_at a (priority l)) (bit_at b (priority l)) (bit_at-lt a _) (bit_at-lt b _)
    ∙ sym (ap (λ x. x || has (lanes_of b) l) (has-lanes_of a l) ∙ ap (λ y. nat_eq (bit_at a (priority l)) 1 || y) (has-lanes_of b l)))

pub bit_or_below : (a b : ℕ) → a < 2 ^ 20 → b < 2 ^ 20 → bit_or a b < 2 ^ 20
bit_or_below a b ha hb = or_lt 20 a b ha hb

pub lanes_of-zero : lanes_of 0 ≡ no_lanes
unfolding lanes_where
lanes_of-zero = refl

one_bit : (l k : ℕ) → nat_eq (bit_at (2 ^ l) k) 1 ≡ nat_eq k l
one_bit l k = go (nat_eq k l) refl
  where
    go : (b : Bool) → nat_eq k l ≡ b → nat_eq (bit_at (2 ^ l) k) 1 ≡ b
    go true e = let same : l ≡ k = grind (arith, nat_tests) in subst (λ i. nat_eq (bit_at (2 ^ l) i) 1 ≡ true) same (ap (λ n. nat_eq n 1) (bit_at-pow_same l))
    go false e = let other : k ≢ l = grind (arith, nat_tests) in ap (λ n. nat_eq n 1) (bit_at-pow_other l k other)

nat_eq-swap : (a b : ℕ) → nat_eq a b ≡ nat_eq b a
nat_eq-swap a b = grind (arith, nat_tests)

shifted : (l : ℕ) → l < 20 → 1 * 2 ^ l % 2 ^ 32 ≡ 2 ^ l
shifted l h = ap (λ n. n % 2 ^ 32) (one-mul (2 ^ l)) ∙ mod-eq_of_lt (pow_below l 32 (omega arith))

pub lanes_of-one : (l : Lane) → lanes_of (1 * 2 ^ priority l % 2 ^ 32) ≡ one l
lanes_of-one l = ap lanes_of (shifted (priority l) (priority-lt l)) ∙ lanes_agree _ _ (λ k. one_bit (priority l) (priority k) ∙ nat_eq-swap (priority k) (priority l))

pub one_below : (l : Lane) → 1 * 2 ^ priority l % 2 ^ 32 < 2 ^ 20
one_below l = subst (λ n. n < 2 ^ 20) (sym (shifted (priority l) (priority-lt l))) (pow_below (priority l) 20 (priority-lt l))

-- a number's bits are back from its set

pub bits_of-lt : (ls : Lanes) → bits_of ls < 2 ^ 20
bits_of-lt [] = omega arith
bits_of-lt (l ∷ ls) = or_lt 20 (2 ^ priority l) (bits_of ls) (pow_below (priority l) 20 (priority-lt l)) (bits_of-lt ls)

bit_of-bits_of : (ls : Lanes) (m : Lane) → nat_eq (bit_at (bits_of ls) (priority m)) 1 ≡ has ls m
bit_of-bits_of [] m = ap (λ n. nat_eq n 1) (bit_at-zero (priority m))
bit_of-bits_of (l ∷ ls) m =
    ap (λ n. nat_eq n 1) (bit_at_or (2 ^ priority l) (bits_of ls) (priority m))
    ∙ is_one_max (bit_at (2 ^ priority l) (priority m)) (bit_at (bits_of ls) (priority m)) (bit_at-lt _ _) (bit_at-lt _ _)
    ∙ ap (λ x. x || nat_eq (bit_at (bits_of ls) (priority m)) 1) (one_bit (priority l) (priority m))
    ∙ ap (λ y. nat_eq (priority m) (priority l) || y) (bit_of-bits_of ls m)

same_bit : (x y : ℕ) → x < 2 → y < 2 → nat_eq x 1 ≡ nat_eq y 1 → x ≡ y
same_bit x y hx hy e = grind (arith, nat_tests)

-- the priorities of these lanes count up from a number
counts_up : ℕ → List Lane → Bool
counts_up k [] = true
counts_up k (l ∷ ls) = nat_eq (priority l) k && counts_up (k + 1) ls

counted : (k i : ℕ) (ls : List Lane) → counts_up k ls ≡ true → i < length ls → nat_eq (priority (slice_index_or ls i Sync)) (k + i) ≡ true
unfolding counts_up
counted k i [] e h = absurd (omega arith)
counted k zero (l ∷ ls) e h = go (nat_eq (priority l) k) refl e
  where
    go : (b : Bool) → nat_eq (priority l) k ≡ b → (b && counts_up (k + 1) ls) ≡ true → nat_eq (priority l) (k + 0) ≡ true
    go true f e = rw add-zero f
    go false f e = absurd (cc)
counted k (suc i) (l ∷ ls) e h = go (λ rest. counted (k + 1) i ls rest (omega arith)) (nat_eq (priority l) k) e
  where
    go : (counts_up (k + 1) ls ≡ true → nat_eq (priority (slice_index_or ls i Sync)) (k + 1 + i) ≡ true) → (b : Bool) → (b && counts_up (k + 1) ls) ≡ true → nat_eq (priority (slice_index_or ls i Sync)) (k + suc i) ≡ true
    go next true e = let same : k + 1 + i ≡ k + suc i = omega arith in subst (λ n. nat_eq (priority (slice_index_or ls i Sync)) n ≡ true) same (next e)
    go next false e = absurd (cc)

priority-lane_at : (i : ℕ) → i < 20 → priority (lane_at i) ≡ i
unfolding counts_up
priority-lane_at i h = nat_eq-true _ _ (counted 0 i all_lanes refl h) ∙ zero-add i

pub bits_of-lanes_of : (bits : ℕ) → bits < 2 ^ 20 → bits_of (lanes_of bits) ≡ bits
bits_of-lanes_of bits h = same_from_bits_below 20 (bits_of (lanes_of bits)) bits (bits_of-lt (lanes_of bits)) h (λ i lt.
    let there : priority (lane_at i) ≡ i = priority-lane_at i lt in
    let at_lane : bit_at (bits_of (lanes_of bits)) (priority (lane_at i)) ≡ bit_at bits (priority (lane_at i)) =
    same_bit _ _ (bit_at-lt _ _) (bit_at-lt _ _) (bit_of-bits_of (lanes_of bits) (lane_at i) ∙ has-lanes_of bits (lane_at i)) in
    subst (λ k. bit_at (bits_of (lanes_of bits)) k ≡ bit_at bits k) there at_lane)

both_min : (x y : ℕ) → x < 2 → y < 2 → nat_eq (min x y) 1 ≡ (nat_eq x 1 && nat_eq y 1)
both_min x y hx hy = grind (arith, nat_tests)

pub lanes_of-bit_and : (a b : ℕ) → lanes_of (bit_and a b) ≡ intersection (lanes_of a) (lanes_of b)
lanes_of-bit_and a b = lanes_agree _ _ (λ l.
    ap (λ n. nat_eq n 1) (bit_at_and a b (priority l)) ∙ both_min (bit_at a (priority l)) (bit_at b (priority l)) (bit_at-lt a _) (bit_at-lt b _)
    ∙ sym (ap (λ x. x && has (lanes_of b) l) (has-lanes_of a l) ∙ ap (λ y. nat_eq (bit_at a (priority l)) 1 && y) (has-lanes_of b l)))

pub bit_and_below : (a b : ℕ) → a < 2 ^ 20 → bit_and a b < 2 ^ 20
bit_and_below a b ha = omega (arith, and_le_l)

pub lanes_of-minus : (a b : ℕ) → b < 2 ^ 20 → lanes_of (bit_and a (bit_not w32 b)) ≡ minus (lanes_of a) (lanes_of b)
lanes_of-minus a b small = lanes_agree _ _ (λ l.
    let lt : priority l < 20 = priority-lt l in
    ap (λ n. nat_eq n 1) (bit_at_and a (bit_not w32 b) (priority l) ∙ ap (min (bit_at a (priority l))) (bit_at_not w32 b (priority l) (omega arith) (omega arith)))
    ∙ is_one_min (bit_at a (priority l)) (bit_at b (priority l)) (bit_at-lt a _) (bit_at-lt b _)
    ∙ sym (ap (λ x. x && not (has (lanes_of b) l)) (has-lanes_of a l) ∙ ap (λ y. nat_eq (bit_at a (priority l)) 1 && not y) (has-lanes_of b l)))

-- the bits 3 to 18 are those of the transition lanes
transition_bits : (l : Lane) → nat_eq (bit_at 524280 (priority l)) 1 ≡ is_transition l
transition_bits Sync = refl
transition_bits Input = refl
transition_bits Default = refl
transition_bits T1 = refl
transition_bits T2 = refl
transition_bits T3 = refl
transition_bits T4 = refl
transition_bits T5 = refl
transition_bits T6 = refl
transition_bits T7 = refl
transition_bits T8 = refl
transition_bits T9 = refl
transition_bits T10 = refl
transition_bits T11 = refl
transition_bits T12 = refl
transition_bits T13 = refl
transition_bits T14 = refl
transition_bits T15 = refl
transition_bits T16 = refl
transition_bits Retry = refl

and-swap : (a b : Bool) → (a && b) ≡ (b && a)
and-swap true true = refl
and-swap true false = refl
and-swap false true = refl
and-swap false false = refl

pub lanes_of-transitions : (bits : ℕ) → lanes_of (bit_and bits 524280) ≡ transitions (lanes_of bits)
lanes_of-transitions bits = lanes_agree _ _ (λ l.
    ap (λ n. nat_eq n 1) (bit_at_and bits 524280 (priority l))
    ∙ both_min (bit_at bits (priority l)) (bit_at 524280 (priority l)) (bit_at-lt bits _) (bit_at-lt 524280 _)
    ∙ and-swap (nat_eq (bit_at bits (priority l)) 1) (nat_eq (bit_at 524280 (priority l)) 1)
    ∙ ap (λ x. x && nat_eq (bit_at bits (priority l)) 1) (transition_bits l)
    ∙ ap (λ y. is_transition l && y) (sym (has-lanes_of bits l)))

-- a set is empty if no bit is set
pub is_empty-lanes_of : (bits : ℕ) → bits < 2 ^ 20 → nat_eq bits 0 ≡ is_empty (lanes_of bits)
is_empty-lanes_of bits h = go (lanes_of bits) refl
  where
    zero_bits : lanes_of bits ≡ [] → bits ≡ 0
    zero_bits e = sym (bits_of-lanes_of bits h) ∙ ap bits_of e

    none_of_zero : (n : ℕ) → n ≡ 0 → lanes_of n ≡ []
    none_of_zero n e = ap lanes_of e ∙ lanes_of-zero

    same : bits ≡ 0 → nat_eq bits 0 ≡ true
    same e = rw e refl

    some : (b : Bool) → nat_eq bits 0 ≡ b → (l : Lane) (ls : Lanes) → lanes_of bits ≡ l ∷ ls → b ≡ false
    some true t l ls e = let z : bits ≡ 0 = nat_eq-true _ _ t in let w : lanes_of bits ≡ [] = none_of_zero bits z in absurd (cc)
    some false t l ls e = refl

    go : (ls : Lanes) → lanes_of bits ≡ ls → nat_eq bits 0 ≡ is_empty ls
    go [] e = same (zero_bits e)
    go (l ∷ ls) e = some (nat_eq bits 0) refl l ls e

pub highest-lanes_of : (bits : ℕ) → highest (lanes_of bits) ≡ find (has (lanes_of bits)) all_lanes
highest-lanes_of bits = highest-lanes_where (λ l. nat_eq (bit_at bits (priority l)) 1)

pub meets-lanes_of : (a : ℕ) (b : Lanes) → meets (lanes_of a) b ≡ not (is_empty (intersection (lanes_of a) b))
meets-lanes_of a b = meets-lanes_where (λ l. nat_eq (bit_at a (priority l)) 1) b

pub within-lanes_of : (a : ℕ) (b : Lanes) → within (lanes_of a) b ≡ is_empty (minus (lanes_of a) b)
within-lanes_of a b = within-lanes_where (λ l. nat_eq (bit_at a (priority l)) 1) b

pub within-transitions : (lanes : Lanes) → within lanes (lanes_of 524280) ≡ only_transitions lanes
within-transitions lanes = list_all-agree (has (lanes_of 524280)) is_transition lanes (λ l. has-lanes_of 524280 l ∙ transition_bits l)

-- the highest lane is that of the lowest bit
pub highest_by_bit : (bits : ℕ) → 0 < bits → bits < 2 ^ 20 → (trailing_zeros w32 bits < 20) × (highest (lanes_of bits) ≡ Some (lane_at (trailing_zeros w32 bits)))
highest_by_bit bits some h =
    let place : ℕ = trailing_zeros w32 bits in
    let low : (place < 32) × (bit_at bits place ≡ 1) × ((i : ℕ) → i < place → bit_at bits i ≡ 0) = bit_at-trailing_zeros w32 bits some (omega arith) in
    let lt : place < 20 = below place low.1 in (
      lt,
      highest-lanes_of bits ∙ find-first (has (lanes_of bits)) all_lanes place lt
          (at_place place lt ∙ ap (λ n. nat_eq n 1) low.1)
          (λ k less. at_place k (omega arith) ∙ ap (λ n. nat_eq n 1) (low.2 k less)),
    )
  where
    below : (place : ℕ) → bit_at bits place ≡ 1 → place < 20
    below place e = go (nat_lt place 20) refl
      where
        go : (b : Bool) → nat_lt place 20 ≡ b → place < 20
        go true f = grind (arith, nat_tests)
        go false f = let le : 20 ≤ place = grind (arith, nat_tests) in let z : bit_at bits place ≡ 0 = bit_at_above bits 20 place h le in absurd (omega arith)

    at_place : (k : ℕ) → k < 20 → has (lanes_of bits) (lane_at k) ≡ nat_eq (bit_at bits k) 1
    at_place k lt = has-lanes_of bits (lane_at k) ∙ ap (λ i. nat_eq (bit_at bits i) 1) (priority-lane_at k lt)
