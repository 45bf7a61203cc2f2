-- The hosts of a tree in its list, by their numbers.
use Rattle.std.specs.Prelude.{◌≡◌, ℕ, ◌+◌, ◌≤◌, Bool, true, false, List, [], ◌∷◌, ◌++◌, Some, None, filter_map, nat_eq, refl}
use Rattle.std.specs.List.{AllByRecursion}
use Rattle.std.proofs.Common.{arith, ap, ◌∙◌}
use Rattle.std.proofs.lemmas.Bool.Decides.{nat_tests, Decides-eqb}
use Rattle.rx_elem.specs.Elements.{Element}
use Rattle.rx_elem.specs.Trees.{Mark, of_instance, of_host, of_boundary, of_catcher, plain, Node, node, Forest, none, vacant, child, host_number, is_host}
use Rattle.rx_elem.specs.Spots.{Around, around_children, spots_in}
use Rattle.rx_forest.specs.Hosts.{Host, host_at, has_host}
use Rattle.host_laws.specs.Related.{AreDistinct}
use Rattle.host_laws.specs.Commits.{AreNumbered, AreNumbered_in}
use Rattle.host_laws.proofs.Listing.{hosts_at, hosts_in, host_first, other_first, no_number, in-child}
use Rattle.host_laws.proofs.Owned.{below-append}
use Rattle.replay_laws.proofs.Counts.{is_number, one_if, times, times_in}

-- how many hosts of a list have this number
abbrev pub occurs : ℕ → List Host → ℕ
occurs n [] = 0
occurs n (h ∷ hs) = one_if (nat_eq n h.number) + occurs n hs

occurs-append : (n : ℕ) (xs ys : List Host) → occurs n (xs ++ ys) ≡ occurs n xs + occurs n ys
occurs-append n [] ys = omega arith
occurs-append n (x ∷ xs) ys = omega (arith, occurs-append n xs ys)

occurs_below : (n : ℕ) (a : Around) (m : Mark) (ns fs : Forest)
    → occurs n (filter_map host_at (spots_in (around_children a m) ns ++ spots_in a fs)) ≡ occurs n (hosts_in (around_children a m) ns) + occurs n (hosts_in a fs)
occurs_below n a m ns fs = ap (occurs n) (below-append a m ns fs) ∙ occurs-append n (hosts_in (around_children a m) ns) (hosts_in a fs)

occurs_other : (n : ℕ) (a : Around) (e : Element) (m : Mark) (ns fs : Forest) → is_host m ≡ false
    → occurs n (hosts_at a (node e m ns fs)) ≡ one_if (is_number n (host_number m)) + (occurs n (hosts_in (around_children a m) ns) + occurs n (hosts_in a fs))
occurs_other n a e m ns fs other =
    let none_of : one_if (is_number n (host_number m)) ≡ 0 = ap (λ k. one_if (is_number n k)) (no_number m other) in
    omega (arith, none_of, ap (occurs n) (other_first a e m ns fs other), occurs_below n a m ns fs)

mutual
  -- the list of a tree's hosts has each number as often as the tree
  pub occurs_times : (n : ℕ) (a : Around) (x : Node) → AreNumbered x → occurs n (hosts_at a x) ≡ times n x
  occurs_times n a (node e (of_host None) ns fs) k = absurd k.0
  occurs_times n a (node e (of_host (Some h)) ns fs) k =
      let m : Mark = of_host (Some h) in
      let listed : occurs n (hosts_at a (node e m ns fs)) ≡ one_if (nat_eq n h) + occurs n (filter_map host_at (spots_in (around_children a m) ns ++ spots_in a fs)) =
      ap (occurs n) (host_first a e h ns fs k.0.0 k.0.1) in
      omega (
        arith,
        listed,
        occurs_below n a m ns fs,
        occurs_times_in n (around_children a m) ns k.1,
        occurs_times_in n a fs k.2,
      )
  occurs_times n a (node e (of_instance i) ns fs) k =
      omega (arith, occurs_other n a e (of_instance i) ns fs refl, occurs_times_in n (around_children a (of_instance i)) ns k.1, occurs_times_in n a fs k.2)
  occurs_times n a (node e (of_boundary s) ns fs) k =
      omega (arith, occurs_other n a e (of_boundary s) ns fs refl, occurs_times_in n (around_children a (of_boundary s)) ns k.1, occurs_times_in n a fs k.2)
  occurs_times n a (node e (of_catcher z) ns fs) k =
      omega (arith, occurs_other n a e (of_catcher z) ns fs refl, occurs_times_in n (around_children a (of_catcher z)) ns k.1, occurs_times_in n a fs k.2)
  occurs_times n a (node e plain ns fs) k =
      omega (arith, occurs_other n a e plain ns fs refl, occurs_times_in n (around_children a plain) ns k.1, occurs_times_in n a fs k.2)

  pub occurs_times_in : (n : ℕ) (a : Around) (ns : Forest) → AreNumbered_in ns → occurs n (hosts_in a ns) ≡ times_in n ns
  occurs_times_in n a none k = refl
  occurs_times_in n a (vacant ns) k = occurs_times_in n a ns k
  occurs_times_in n a (child x ns) k =
      omega (arith, ap (occurs n) (in-child a x ns), occurs-append n (hosts_at a x) (hosts_in a ns), occurs_times n a x k.0, occurs_times_in n a ns k.1)

-- a host of this number is there, or not, by how often it is

flip : (m n : ℕ) (b : Bool) → nat_eq m n ≡ b → nat_eq n m ≡ b
flip m n true e = grind (arith, nat_tests)
flip m n false e = grind (arith, nat_tests)

pub none_there : (n : ℕ) (hs : List Host) → occurs n hs ≤ 0 → has_host hs n ≡ false
none_there n [] h = refl
none_there n (g ∷ hs) h = go (none_there n hs (omega arith)) (nat_eq n g.number) refl
  where
    go : has_host hs n ≡ false → (b : Bool) → nat_eq n g.number ≡ b → has_host (g ∷ hs) n ≡ false
    go k true e = let one : one_if (nat_eq n g.number) ≡ 1 = ap one_if e in absurd (omega arith)
    go k false e = rw (flip n g.number false e) k

pub some_there : (n : ℕ) (hs : List Host) → 1 ≤ occurs n hs → has_host hs n ≡ true
some_there n [] h = absurd (omega arith)
some_there n (g ∷ hs) h = go (some_there n hs) (nat_eq n g.number) refl
  where
    go : (1 ≤ occurs n hs → has_host hs n ≡ true) → (b : Bool) → nat_eq n g.number ≡ b → has_host (g ∷ hs) n ≡ true
    go k true e = rw (flip n g.number true e) refl
    go k false e =
        let nothing : one_if (nat_eq n g.number) ≡ 0 = ap one_if e in
        rw (flip n g.number false e) (k (omega arith))

pub distinct_once : (hs : List Host) → ((n : ℕ) → occurs n hs ≤ 1) → AreDistinct hs
distinct_once [] h = tt
distinct_once (g ∷ hs) h =
    let self : nat_eq g.number g.number ≡ true = (Decides-eqb g.number g.number).1 refl in
    let own : one_if (nat_eq g.number g.number) ≡ 1 = ap one_if self in
    (none_there g.number hs (omega (arith, h g.number)), distinct_once hs (λ n. omega (arith, h n)))

-- what holds of each number of a tree's hosts holds of each host
all_occurring : (q : ℕ → Bool) (hs : List Host) → ((n : ℕ) → 1 ≤ occurs n hs → q n ≡ false) → AllByRecursion (λ h. q h.number ≡ false) hs
all_occurring q [] h = tt
all_occurring q (g ∷ hs) h =
    let self : nat_eq g.number g.number ≡ true = (Decides-eqb g.number g.number).1 refl in
    let own : one_if (nat_eq g.number g.number) ≡ 1 = ap one_if self in
    (h g.number (omega arith), all_occurring q hs (λ n k. h n (omega arith)))

pub all_numbered : (q : ℕ → Bool) (a : Around) (x : Node) → AreNumbered x → ((n : ℕ) → 1 ≤ times n x → q n ≡ false)
    → AllByRecursion (λ h. q h.number ≡ false) (hosts_at a x)
all_numbered q a x k h = all_occurring q (hosts_at a x) (λ n l. h n (rw (← occurs_times n a x k) l))
