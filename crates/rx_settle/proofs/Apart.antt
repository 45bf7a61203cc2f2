-- No two instances of a tree have one number, if each has a number of its own.
use Rattle.std.proofs.Common.{◌≡◌, ℕ, zero, suc, ◌+◌, ◌<◌, ◌≤◌, Bool, true, false, cond, nat_eq, Option, Some, None, List, [], ◌∷◌, filter_map, option_map, option_and_then, slice_get, refl, ap, ◌∙◌, arith}
use Rattle.std.specs.List.{cons_option}
use Rattle.std.proofs.lemmas.Bool.Decides.{nat_tests}
use Rattle.rx_elem.specs.Trees.{Mark, Node, instance_in, of_boundary, of_catcher, of_host, of_instance, plain}
use Rattle.rx_elem.specs.Spots.{Around, Mounted, Spot, at_root, mounted, mounted_as, mounted_in, numbers_of, spot_mark, spots}
use Rattle.rx_meaning.specs.Settled.{HasOwnNumbers, is_numbered_so, number_of}
use Rattle.commit_laws.proofs.OwnNumbers.{occurs, spot_times, spots_times}
use Rattle.rx_settle.specs.Passes.{AreApart}

-- an instance at a spot counts for its number
one_listed : (n : ℕ) (a : Around) (m : Mark) (ms : List Mounted)
    → occurs n (numbers_of (cons_option (option_and_then (mounted_as a) (instance_in m)) ms)) ≡ cond (is_numbered_so n (number_of m)) 1 0 + occurs n (numbers_of ms)
one_listed n a (of_instance i) ms = go i.number
  where
    go : (o : Option ℕ)
        → occurs n (numbers_of (cons_option (option_map (λ k. let y : Mounted = record { number = k; component = i.component; initials = i.initials; owner = a.owner; visible = a.visible } in y) o) ms))
        ≡ cond (is_numbered_so n o) 1 0 + occurs n (numbers_of ms)
    go None = omega arith
    go (Some k) = refl
one_listed n a (of_host h) ms = omega arith
one_listed n a (of_boundary b) ms = omega arith
one_listed n a (of_catcher c) ms = omega arith
one_listed n a plain ms = omega arith

-- the instances at some spots have each number as often as the spots
pub all_listed : (n : ℕ) (xs : List Spot) → occurs n (numbers_of (filter_map mounted_in xs)) ≡ spot_times n xs
all_listed n [] = refl
all_listed n (x ∷ xs) = omega (arith, one_listed n x.around (spot_mark x) (filter_map mounted_in xs), all_listed n xs)

one_more : (b : Bool) (n k : ℕ) → b ≡ true → k ≤ n → suc k ≤ cond b 1 0 + n
one_more true n k e le = omega arith
one_more false n k e le = cc

more_of : (b : Bool) (n k : ℕ) → k ≤ n → k ≤ cond b 1 0 + n
more_of true n k le = omega arith
more_of false n k le = omega arith

-- an instance's number occurs, and that of two instances twice
occurs_once : (ms : List Mounted) (k : ℕ) (a : Mounted) (n : ℕ) → slice_get ms k ≡ Some a → nat_eq n a.number ≡ true → 1 ≤ occurs n (numbers_of ms)
occurs_once [] k a n at e = cc
occurs_once (x ∷ ms) zero a n at e =
    let same : x ≡ a = cc in
    one_more (nat_eq n x.number) (occurs n (numbers_of ms)) 0 (ap (λ (y : Mounted). nat_eq n y.number) same ∙ e) (omega arith)
occurs_once (x ∷ ms) (suc k) a n at e = more_of (nat_eq n x.number) (occurs n (numbers_of ms)) 1 (occurs_once ms k a n at e)

occurs_twice : (ms : List Mounted) (j k : ℕ) (a b : Mounted) (n : ℕ) → j < k → slice_get ms j ≡ Some a → slice_get ms k ≡ Some b → nat_eq n a.number ≡ true → nat_eq n b.number ≡ true
    → 2 ≤ occurs n (numbers_of ms)
occurs_twice [] j k a b n lt here there e f = cc
occurs_twice (x ∷ ms) zero zero a b n lt here there e f = absurd (omega arith)
occurs_twice (x ∷ ms) zero (suc k) a b n lt here there e f =
    let same : x ≡ a = cc in
    one_more (nat_eq n x.number) (occurs n (numbers_of ms)) 1 (ap (λ (y : Mounted). nat_eq n y.number) same ∙ e) (occurs_once ms k b n there f)
occurs_twice (x ∷ ms) (suc j) zero a b n lt here there e f = absurd (omega arith)
occurs_twice (x ∷ ms) (suc j) (suc k) a b n lt here there e f = more_of (nat_eq n x.number) (occurs n (numbers_of ms)) 2 (occurs_twice ms j k a b n (omega arith) here there e f)

-- so no two of them have one number
pub own_apart : (next : ℕ) (x : Node) → HasOwnNumbers next (Some x) → AreApart (mounted (Some x))
own_apart next x own j k a b lt here there = go (nat_eq a.number b.number) refl
  where
    itself : nat_eq a.number a.number ≡ true
    itself = grind (arith, nat_tests)

    go : (t : Bool) → nat_eq a.number b.number ≡ t → t ≡ false
    go true e =
        absurd (omega (arith, occurs_twice (mounted (Some x)) j k a b a.number lt here there itself e, all_listed a.number (spots at_root x), spots_times a.number at_root x, (own a.number).0))
    go false e = refl
