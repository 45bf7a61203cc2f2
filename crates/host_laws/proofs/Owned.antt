-- What is said of each host of a list, and of each host of a tree.
use Rattle.std.specs.Prelude.{◌≡◌, ℕ, Bool, true, false, cond, ◌||◌, List, [], ◌∷◌, ◌++◌, Some, None, filter_map, nat_eq, refl}
use Rattle.std.specs.List.{AllByRecursion}
use Rattle.std.proofs.Common.{arith, sym, subst}
use Rattle.std.proofs.lemmas.Bool.Decides.{nat_tests, Decides-eqb}
use Rattle.std.proofs.lemmas.List.Elements.{filter_map-append}
use Rattle.rx_elem.specs.Elements.{Element}
use Rattle.rx_elem.specs.Trees.{Mark, of_instance, of_host, of_boundary, of_catcher, plain, Node, node, Forest, child}
use Rattle.rx_elem.specs.Spots.{Around, around_children, spots_in}
use Rattle.rx_forest.specs.Hosts.{Host, Content, content_of, host_at, host_as, host_numbered, has_host}
use Rattle.host_laws.specs.Related.{AreDistinct}
use Rattle.host_laws.specs.Commits.{HasNumber}
use Rattle.host_laws.proofs.Listing.{hosts_at, hosts_in, host_first, other_first, in-child}

flip : (m n : ℕ) (b : Bool) → nat_eq m n ≡ b → nat_eq n m ≡ b
flip m n true e = grind (arith, nat_tests)
flip m n false e = grind (arith, nat_tests)

pub below-append : (a : Around) (m : Mark) (ns fs : Forest)
    → filter_map host_at (spots_in (around_children a m) ns ++ spots_in a fs) ≡ hosts_in (around_children a m) ns ++ hosts_in a fs
below-append a m ns fs = filter_map-append host_at (spots_in (around_children a m) ns) (spots_in a fs)

-- each host of a list is the one of its number
abbrev pub IsOwn : List Host → Host → Type 0
IsOwn all h = host_numbered all h.number ≡ Some h

own_later : (g : Host) (all hs : List Host) → has_host hs g.number ≡ false → AllByRecursion (IsOwn all) hs → AllByRecursion (IsOwn (g ∷ all)) hs
own_later g all [] o a = tt
own_later g all (h ∷ hs) o a = (go (nat_eq g.number h.number) refl, own_later g all hs (rest (nat_eq h.number g.number) o) a.1)
  where
    rest : (b : Bool) → (b || has_host hs g.number) ≡ false → has_host hs g.number ≡ false
    rest true k = absurd (cc)
    rest false k = k

    go : (b : Bool) → nat_eq g.number h.number ≡ b → cond (nat_eq g.number h.number) (Some g) (host_numbered all h.number) ≡ Some h
    go true e =
        let back : nat_eq h.number g.number ≡ true = flip g.number h.number true e in
        let clash : has_host (h ∷ hs) g.number ≡ true = rw back refl in absurd (cc)
    go false e = rw e a.0

pub each_own : (hs : List Host) → AreDistinct hs → AllByRecursion (IsOwn hs) hs
each_own [] d = tt
each_own (g ∷ hs) d =
    let self : nat_eq g.number g.number ≡ true = (Decides-eqb g.number g.number).1 refl in
    (rw self refl, own_later g hs hs d.0 (each_own hs d.1))

-- what is said of each host of a list

pub all_first : (P : Host → Type 0) (xs ys : List Host) → AllByRecursion P (xs ++ ys) → AllByRecursion P xs
all_first P [] ys a = tt
all_first P (x ∷ xs) ys a = (a.0, all_first P xs ys a.1)

pub all_last : (P : Host → Type 0) (xs ys : List Host) → AllByRecursion P (xs ++ ys) → AllByRecursion P ys
all_last P [] ys a = a
all_last P (x ∷ xs) ys a = all_last P xs ys a.1

pub all_both : (P : Host → Type 0) (xs ys : List Host) → AllByRecursion P xs → AllByRecursion P ys → AllByRecursion P (xs ++ ys)
all_both P [] ys a b = b
all_both P (x ∷ xs) ys a b = (a.0, all_both P xs ys a.1 b)

-- of each host of a tree

-- of what is below a node
pub all_below : (P : Host → Type 0) (a : Around) (m : Mark) (ns fs : Forest) → AllByRecursion P (hosts_in (around_children a m) ns) → AllByRecursion P (hosts_in a fs)
    → AllByRecursion P (filter_map host_at (spots_in (around_children a m) ns ++ spots_in a fs))
all_below P a m ns fs x y = subst (AllByRecursion P) (sym (below-append a m ns fs)) (all_both P (hosts_in (around_children a m) ns) (hosts_in a fs) x y)

-- of a node: if it is a host of the list, it holds of that too
pub all_at : (P : Host → Type 0) (a : Around) (e : Element) (m : Mark) (ns fs : Forest) → HasNumber e m
    → ((n : ℕ) (c : Content) → m ≡ of_host (Some n) → content_of e ≡ Some c → P (host_as a n c))
    → AllByRecursion P (hosts_in (around_children a m) ns) → AllByRecursion P (hosts_in a fs) → AllByRecursion P (hosts_at a (node e m ns fs))
all_at P a e (of_host None) ns fs k own x y = absurd k
all_at P a e (of_host (Some n)) ns fs k own x y =
    subst (AllByRecursion P) (sym (host_first a e n ns fs k.0 k.1)) (own n k.0 refl k.1, all_below P a (of_host (Some n)) ns fs x y)
all_at P a e (of_instance i) ns fs k own x y = subst (AllByRecursion P) (sym (other_first a e (of_instance i) ns fs refl)) (all_below P a (of_instance i) ns fs x y)
all_at P a e (of_boundary s) ns fs k own x y = subst (AllByRecursion P) (sym (other_first a e (of_boundary s) ns fs refl)) (all_below P a (of_boundary s) ns fs x y)
all_at P a e (of_catcher z) ns fs k own x y = subst (AllByRecursion P) (sym (other_first a e (of_catcher z) ns fs refl)) (all_below P a (of_catcher z) ns fs x y)
all_at P a e plain ns fs k own x y = subst (AllByRecursion P) (sym (other_first a e plain ns fs refl)) (all_below P a plain ns fs x y)

-- and what is said of all hosts of a node is said of it and of all below it
pub parts_at : (P : Host → Type 0) (a : Around) (e : Element) (m : Mark) (ns fs : Forest) → HasNumber e m → AllByRecursion P (hosts_at a (node e m ns fs))
    → ((n : ℕ) (c : Content) → m ≡ of_host (Some n) → content_of e ≡ Some c → P (host_as a n c))
    × AllByRecursion P (hosts_in (around_children a m) ns) × AllByRecursion P (hosts_in a fs)
parts_at P a e m ns fs k all = go m k all
  where
    split : (m : Mark) → AllByRecursion P (filter_map host_at (spots_in (around_children a m) ns ++ spots_in a fs))
        → AllByRecursion P (hosts_in (around_children a m) ns) × AllByRecursion P (hosts_in a fs)
    split m all =
        let both = subst (AllByRecursion P) (below-append a m ns fs) all in
        (all_first P (hosts_in (around_children a m) ns) (hosts_in a fs) both, all_last P (hosts_in (around_children a m) ns) (hosts_in a fs) both)

    go : (m : Mark) → HasNumber e m → AllByRecursion P (hosts_at a (node e m ns fs))
        → ((n : ℕ) (c : Content) → m ≡ of_host (Some n) → content_of e ≡ Some c → P (host_as a n c))
        × AllByRecursion P (hosts_in (around_children a m) ns) × AllByRecursion P (hosts_in a fs)
    go (of_host None) k all = absurd k
    go (of_host (Some h)) k all =
        let both : AllByRecursion P (host_as a h k.0 ∷ filter_map host_at (spots_in (around_children a (of_host (Some h))) ns ++ spots_in a fs)) =
        subst (AllByRecursion P) (host_first a e h ns fs k.0 k.1) all in
        let parts = split (of_host (Some h)) both.1 in
        (λ n c is con. let num : h ≡ n = cc in let same : k.0 ≡ c = cc (con, k.1) in subst (λ c. P (host_as a n c)) same (subst (λ n. P (host_as a n k.0)) num both.0), parts.0, parts.1)
    go (of_instance i) k all = let parts = split (of_instance i) (subst (AllByRecursion P) (other_first a e (of_instance i) ns fs refl) all) in (λ n c is con. absurd (cc), parts.0, parts.1)
    go (of_boundary s) k all = let parts = split (of_boundary s) (subst (AllByRecursion P) (other_first a e (of_boundary s) ns fs refl) all) in (λ n c is con. absurd (cc), parts.0, parts.1)
    go (of_catcher z) k all = let parts = split (of_catcher z) (subst (AllByRecursion P) (other_first a e (of_catcher z) ns fs refl) all) in (λ n c is con. absurd (cc), parts.0, parts.1)
    go plain k all = let parts = split plain (subst (AllByRecursion P) (other_first a e plain ns fs refl) all) in (λ n c is con. absurd (cc), parts.0, parts.1)

pub all_child : (P : Host → Type 0) (a : Around) (x : Node) (ns : Forest) → AllByRecursion P (hosts_at a x) → AllByRecursion P (hosts_in a ns)
    → AllByRecursion P (hosts_in a (child x ns))
all_child P a x ns h l = subst (AllByRecursion P) (sym (in-child a x ns)) (all_both P (hosts_at a x) (hosts_in a ns) h l)

pub parts_child : (P : Host → Type 0) (a : Around) (x : Node) (ns : Forest) → AllByRecursion P (hosts_in a (child x ns))
    → AllByRecursion P (hosts_at a x) × AllByRecursion P (hosts_in a ns)
parts_child P a x ns all =
    let both = subst (AllByRecursion P) (in-child a x ns) all in (all_first P (hosts_at a x) (hosts_in a ns) both, all_last P (hosts_at a x) (hosts_in a ns) both)
