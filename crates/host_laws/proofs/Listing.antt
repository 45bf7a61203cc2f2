-- The children of a host in the listing of a tree are the hosts at the front of its children.
use Rattle.std.specs.Prelude.{◌≡◌, ℕ, Bool, true, false, ◌||◌, List, [], ◌∷◌, ◌++◌, Some, None, filter_map, nat_eq, refl, if◌then◌else◌}
use Rattle.std.proofs.Common.{sym, ◌∙◌, ap, subst, arith}
use Rattle.std.proofs.lemmas.Bool.Decides.{nat_tests, Decides-eqb}
use Rattle.std.proofs.lemmas.Option.{none-some, same_Some}
use Rattle.std.proofs.lemmas.List.{append-nil}
use Rattle.std.proofs.lemmas.List.Elements.{filter_map-append}
use Rattle.host_laws.specs.Commits.{front, front_in, AreNumbered, AreNumbered_in}
use Rattle.host_laws.specs.Related.{AreDistinct}
use Rattle.rx_elem.specs.Spots.{Around, around_children, spots, spots_in}
use Rattle.rx_susp.specs.declared.boundary.BoundaryState.TheVariants.{Shown, Hidden}
use Rattle.rx_elem.specs.Trees.{Mark, host_number, is_host, of_instance, of_host, of_boundary, of_catcher, plain, Node, node, Forest, none, vacant, child}
use Rattle.rx_forest.specs.Forests.{children_in}
use Rattle.rx_forest.specs.Hosts.{Host, Content, has_host, host_at, host_as, content_of}
use Rattle.rx_elem.specs.Elements.{Element}
use Rattle.host_laws.proofs.Placing.{neither}
use Rattle.host_laws.proofs.Placements.{children_in-append, other_number}

-- the hosts of a part of a tree
abbrev pub hosts_at : Around → Node → List Host
hosts_at a n = filter_map host_at (spots a n)

abbrev pub hosts_in : Around → Forest → List Host
hosts_in a ns = filter_map host_at (spots_in a ns)

pub has_host-append : (hs gs : List Host) (n : ℕ) → has_host (hs ++ gs) n ≡ (has_host hs n || has_host gs n)
has_host-append [] gs n = refl
has_host-append (h ∷ hs) gs n = ap (λ b. nat_eq h.number n || b) (has_host-append hs gs n) ∙ go (nat_eq h.number n)
  where
    go : (b : Bool) → (b || (has_host hs n || has_host gs n)) ≡ ((b || has_host hs n) || has_host gs n)
    go true = refl
    go false = refl

-- the parts of the hosts of a forest
pub in-child : (a : Around) (n : Node) (ns : Forest) → hosts_in a (child n ns) ≡ hosts_at a n ++ hosts_in a ns
in-child a n ns = filter_map-append host_at (spots a n) (spots_in a ns)

-- a host before those below it
pub host_first : (a : Around) (e : Element) (n : ℕ) (ns fs : Forest) (c : Content) → content_of e ≡ Some c
    → hosts_at a (node e (of_host (Some n)) ns fs) ≡ host_as a n c ∷ filter_map host_at (spots_in (around_children a (of_host (Some n))) ns ++ spots_in a fs)
host_first a e n ns fs c q = rw q refl

-- what is no host has the hosts below it
pub other_first : (a : Around) (e : Element) (m : Mark) (ns fs : Forest) → is_host m ≡ false
    → hosts_at a (node e m ns fs) ≡ filter_map host_at (spots_in (around_children a m) ns ++ spots_in a fs)
other_first a e (of_instance i) ns fs h = refl
other_first a e (of_host n) ns fs h = absurd (cc)
other_first a e (of_boundary s) ns fs h = refl
other_first a e (of_catcher z) ns fs h = refl
other_first a e plain ns fs h = refl

pub no_number : (m : Mark) → is_host m ≡ false → host_number m ≡ None
no_number (of_instance i) h = refl
no_number (of_host n) h = absurd (cc)
no_number (of_boundary s) h = refl
no_number (of_catcher z) h = refl
no_number plain h = refl

-- below what is no host, the host above is the same
pub same_above : (a : Around) (m : Mark) → is_host m ≡ false → (around_children a m).host ≡ a.host
same_above a (of_instance i) h = refl
same_above a (of_host n) h = absurd (cc)
same_above a (of_boundary Shown) h = refl
same_above a (of_boundary (Hidden w)) h = refl
same_above a (of_catcher z) h = refl
same_above a plain h = refl

below-append : (a : Around) (m : Mark) (ns fs : Forest)
    → filter_map host_at (spots_in (around_children a m) ns ++ spots_in a fs) ≡ hosts_in (around_children a m) ns ++ hosts_in a fs
below-append a m ns fs = filter_map-append host_at (spots_in (around_children a m) ns) (spots_in a fs)

if_append : (b : Bool) (xs ys : List ℕ) → (if b then xs else []) ++ (if b then ys else []) ≡ (if b then xs ++ ys else [])
if_append true xs ys = refl
if_append false xs ys = refl

pub split_hosts : (a a' : Around) (ns fs : Forest) (q : ℕ) → has_host (filter_map host_at (spots_in a' ns ++ spots_in a fs)) q ≡ false
    → (has_host (hosts_in a' ns) q ≡ false) × (has_host (hosts_in a fs) q ≡ false)
split_hosts a a' ns fs q h =
    neither _ _ (sym (has_host-append (hosts_in a' ns) (hosts_in a fs) q)
    ∙ ap (λ hs. has_host hs q) (sym (filter_map-append host_at (spots_in a' ns) (spots_in a fs))) ∙ h)

split_children : (a a' : Around) (ns fs : Forest) (q : ℕ)
    → children_in (filter_map host_at (spots_in a' ns ++ spots_in a fs)) q ≡ children_in (hosts_in a' ns) q ++ children_in (hosts_in a fs) q
split_children a a' ns fs q =
    ap (λ hs. children_in hs q) (filter_map-append host_at (spots_in a' ns) (spots_in a fs)) ∙ children_in-append (hosts_in a' ns) (hosts_in a fs) q

two_lists : (a a' : Around) (ns fs : Forest) (q : ℕ)
    → children_in (hosts_in a' ns) q ≡ (if nat_eq a.host q then front_in ns else []) → children_in (hosts_in a fs) q ≡ (if nat_eq a.host q then front_in fs else [])
    → children_in (filter_map host_at (spots_in a' ns ++ spots_in a fs)) q ≡ (if nat_eq a.host q then front_in ns ++ front_in fs else [])
two_lists a a' ns fs q one two = split_children a a' ns fs q ∙ rw (one, two) (if_append (nat_eq a.host q) (front_in ns) (front_in fs))

under_host : (a a' : Around) (n : ℕ) (h : Host) (ns fs : Forest) (q : ℕ) → h.number ≡ n → h.parent ≡ a.host → nat_eq n q ≡ false
    → children_in (hosts_in a' ns) q ≡ (if nat_eq n q then front_in ns else []) → children_in (hosts_in a fs) q ≡ (if nat_eq a.host q then front_in fs else [])
    → children_in (h ∷ filter_map host_at (spots_in a' ns ++ spots_in a fs)) q ≡ (if nat_eq a.host q then n ∷ front_in fs else [])
under_host a a' n h ns fs q num par other one two = go (nat_eq a.host q) refl
  where
    rest : children_in (filter_map host_at (spots_in a' ns ++ spots_in a fs)) q ≡ (if nat_eq a.host q then front_in fs else [])
    rest = split_children a a' ns fs q ∙ rw (one, two, other) refl

    go : (b : Bool) → nat_eq a.host q ≡ b
        → children_in (h ∷ filter_map host_at (spots_in a' ns ++ spots_in a fs)) q ≡ (if nat_eq a.host q then n ∷ front_in fs else [])
    go true e =
        let here : nat_eq h.parent q ≡ true = ap (λ p. nat_eq p q) par ∙ e in
        rw (here, e, num) (ap (λ xs. n ∷ xs) (rest ∙ rw e refl))
    go false e =
        let here : nat_eq h.parent q ≡ false = ap (λ p. nat_eq p q) par ∙ e in
        rw (here, e) (rest ∙ rw e refl)

mutual
  -- what is no host's number has the front as children, or nothing
  pub front_children : (a : Around) (n : Node) (q : ℕ) → AreNumbered n → has_host (hosts_at a n) q ≡ false
      → children_in (hosts_at a n) q ≡ (if nat_eq a.host q then front n else [])
  front_children a (node e (of_host None) ns fs) q k h = absurd k.0
  front_children a (node e (of_host (Some n)) ns fs) q k h =
      let first = host_first a e n ns fs k.0.0 k.0.1 in
      let h' : has_host (host_as a n k.0.0 ∷ filter_map host_at (spots_in (around_children a (of_host (Some n))) ns ++ spots_in a fs)) q ≡ false =
      subst (λ hs. has_host hs q ≡ false) first h in
      let own = neither _ _ h' in
      let both = split_hosts a (around_children a (of_host (Some n))) ns fs q own.1 in
      ap (λ hs. children_in hs q) first
      ∙ under_host a (around_children a (of_host (Some n))) n (host_as a n k.0.0) ns fs q refl refl own.0
      (front_children_in (around_children a (of_host (Some n))) ns q k.1 both.0) (front_children_in a fs q k.2 both.1)
  front_children a (node e (of_instance i) ns fs) q k h =
      let both = split_hosts a (around_children a (of_instance i)) ns fs q h in
      two_lists a (around_children a (of_instance i)) ns fs q (front_children_in (around_children a (of_instance i)) ns q k.1 both.0) (front_children_in a fs q k.2 both.1)
  front_children a (node e plain ns fs) q k h =
      let both = split_hosts a (around_children a plain) ns fs q h in
      two_lists a (around_children a plain) ns fs q (front_children_in (around_children a plain) ns q k.1 both.0) (front_children_in a fs q k.2 both.1)
  front_children a (node e (of_boundary Shown) ns fs) q k h =
      let both = split_hosts a (around_children a (of_boundary Shown)) ns fs q h in
      two_lists a (around_children a (of_boundary Shown)) ns fs q (front_children_in (around_children a (of_boundary Shown)) ns q k.1 both.0) (front_children_in a fs q k.2 both.1)
  front_children a (node e (of_boundary (Hidden w)) ns fs) q k h =
      let both = split_hosts a (around_children a (of_boundary (Hidden w))) ns fs q h in
      two_lists a (around_children a (of_boundary (Hidden w))) ns fs q (front_children_in (around_children a (of_boundary (Hidden w))) ns q k.1 both.0) (front_children_in a fs q k.2 both.1)
  front_children a (node e (of_catcher z) ns fs) q k h =
      let both = split_hosts a (around_children a (of_catcher z)) ns fs q h in
      two_lists a (around_children a (of_catcher z)) ns fs q (front_children_in (around_children a (of_catcher z)) ns q k.1 both.0) (front_children_in a fs q k.2 both.1)

  pub front_children_in : (a : Around) (ns : Forest) (q : ℕ) → AreNumbered_in ns → has_host (hosts_in a ns) q ≡ false
      → children_in (hosts_in a ns) q ≡ (if nat_eq a.host q then front_in ns else [])
  front_children_in a none q k h = go (nat_eq a.host q)
    where
      go : (b : Bool) → [] ≡ (if b then front_in none else [])
      go true = refl
      go false = refl
  front_children_in a (vacant ns) q k h = front_children_in a ns q k h
  front_children_in a (child n ns) q k h =
      let both : (has_host (hosts_at a n) q ≡ false) × (has_host (hosts_in a ns) q ≡ false) =
      neither _ _ (sym (has_host-append (hosts_at a n) (hosts_in a ns) q) ∙ ap (λ hs. has_host hs q) (sym (in-child a n ns)) ∙ h) in
      ap (λ hs. children_in hs q) (in-child a n ns) ∙ children_in-append (hosts_at a n) (hosts_in a ns) q
      ∙ rw (front_children a n q k.0 both.0, front_children_in a ns q k.1 both.1) (if_append (nat_eq a.host q) (front n) (front_in ns))

-- Each host's children in the listing

pub distinct-append : (xs ys : List Host) → AreDistinct (xs ++ ys)
    → AreDistinct xs × AreDistinct ys × ((q : ℕ) → has_host xs q ≡ true → has_host ys q ≡ false)
distinct-append [] ys d = (tt, d, λ q h. absurd (cc))
distinct-append (x ∷ xs) ys d =
    let parts : (has_host xs x.number ≡ false) × (has_host ys x.number ≡ false) = neither _ _ (sym (has_host-append xs ys x.number) ∙ d.0) in
    let rest = distinct-append xs ys d.1 in
    ((parts.0, rest.0), rest.1, λ q h. apart q parts.1 (rest.2 q) (nat_eq x.number q) refl h)
  where
    apart : (q : ℕ) → has_host ys x.number ≡ false → (has_host xs q ≡ true → has_host ys q ≡ false) → (b : Bool) → nat_eq x.number q ≡ b
        → (b || has_host xs q) ≡ true → has_host ys q ≡ false
    apart q o r true e h = ap (has_host ys) (sym ((Decides-eqb x.number q).0 e)) ∙ o
    apart q o r false e h = r h

flipped : (m n : ℕ) → nat_eq n m ≡ false → nat_eq m n ≡ false
flipped m n e = grind (arith, nat_tests)

module _ (L X Y : List Host) (x y : ℕ)
    (hx : (q : ℕ) → has_host X q ≡ false → nat_eq x q ≡ false → children_in X q ≡ [])
    (hy : (q : ℕ) → has_host Y q ≡ false → nat_eq y q ≡ false → children_in Y q ≡ [])
    (apart : (q : ℕ) → has_host X q ≡ true → has_host Y q ≡ false)
    (ox : has_host Y x ≡ false) (oy : has_host X y ≡ false)
    (all : (q : ℕ) → has_host (X ++ Y) q ≡ true → children_in L q ≡ children_in (X ++ Y) q) where
  left_part : (q : ℕ) → has_host X q ≡ true → children_in L q ≡ children_in X q
  left_part q h =
      let nothing : children_in Y q ≡ [] = hy q (apart q h) (flipped y q (other_number X y q oy h)) in
      all q (has_host-append X Y q ∙ ap (λ b. b || has_host Y q) h) ∙ children_in-append X Y q ∙ rw nothing (append-nil (children_in X q))

  right_part : (q : ℕ) → has_host Y q ≡ true → children_in L q ≡ children_in Y q
  right_part q h =
      let nothing : children_in X q ≡ [] = hx q (not_left (has_host X q) refl) (flipped x q (other_number Y x q ox h)) in
      all q (has_host-append X Y q ∙ or_right (has_host X q) h) ∙ children_in-append X Y q ∙ rw nothing refl
    where
      or_right : (b : Bool) → has_host Y q ≡ true → (b || has_host Y q) ≡ true
      or_right true h = refl
      or_right false h = h

      not_left : (b : Bool) → has_host X q ≡ b → b ≡ false
      not_left true e = let l : has_host Y q ≡ false = apart q e in absurd (cc)
      not_left false e = refl

-- the children of each host of a tree in a listing
abbrev mutual
  pub FrontsAre : List Host → Node → Type 0
  FrontsAre L (node e m ns fs) = ((n : ℕ) → host_number m ≡ Some n → children_in L n ≡ front_in ns) × FrontsAre_in L ns × FrontsAre_in L fs

  pub FrontsAre_in : List Host → Forest → Type 0
  FrontsAre_in L none = Unit {0}
  FrontsAre_in L (vacant ns) = FrontsAre_in L ns
  FrontsAre_in L (child n ns) = FrontsAre L n × FrontsAre_in L ns

pub nothing_in : (a : Around) (ns : Forest) → AreNumbered_in ns → (q : ℕ) → has_host (hosts_in a ns) q ≡ false → nat_eq a.host q ≡ false → children_in (hosts_in a ns) q ≡ []
nothing_in a ns k q h e = front_children_in a ns q k h ∙ rw e refl

pub nothing_at : (a : Around) (n : Node) → AreNumbered n → (q : ℕ) → has_host (hosts_at a n) q ≡ false → nat_eq a.host q ≡ false → children_in (hosts_at a n) q ≡ []
nothing_at a n k q h e = front_children a n q k h ∙ rw e refl

-- what a listing says of a part of it
abbrev Says : List Host → List Host → Type 0
Says L hs = (q : ℕ) → has_host hs q ≡ true → children_in L q ≡ children_in hs q

-- the parts of what is below a node
rest_parts : (L : List Host) (a a' : Around) (ns fs : Forest) → AreNumbered_in ns → AreNumbered_in fs
    → AreDistinct (filter_map host_at (spots_in a' ns ++ spots_in a fs))
    → has_host (filter_map host_at (spots_in a' ns ++ spots_in a fs)) a.host ≡ false
    → has_host (filter_map host_at (spots_in a' ns ++ spots_in a fs)) a'.host ≡ false
    → Says L (filter_map host_at (spots_in a' ns ++ spots_in a fs))
    → AreDistinct (hosts_in a' ns) × (has_host (hosts_in a' ns) a'.host ≡ false) × Says L (hosts_in a' ns)
    × AreDistinct (hosts_in a fs) × (has_host (hosts_in a fs) a.host ≡ false) × Says L (hosts_in a fs)
rest_parts L a a' ns fs k l d o o' says =
    let e : filter_map host_at (spots_in a' ns ++ spots_in a fs) ≡ hosts_in a' ns ++ hosts_in a fs =
    filter_map-append host_at (spots_in a' ns) (spots_in a fs) in
    let out = split_hosts a a' ns fs a.host o in
    let out' = split_hosts a a' ns fs a'.host o' in
    let parts = distinct-append (hosts_in a' ns) (hosts_in a fs) (subst AreDistinct e d) in
    let says' : Says L (hosts_in a' ns ++ hosts_in a fs) = subst (Says L) e says in (
      parts.0,
      out'.0,
      left_part L (hosts_in a' ns) (hosts_in a fs) a'.host a.host (nothing_in a' ns k) (nothing_in a fs l) parts.2 out'.1 out.0 says',
      parts.1,
      out.1,
      right_part L (hosts_in a' ns) (hosts_in a fs) a'.host a.host (nothing_in a' ns k) (nothing_in a fs l) parts.2 out'.1 out.0 says',
    )

-- the same below a host
host_says : (L : List Host) (h : Host) (R : List Host) → has_host R h.parent ≡ false → Says L (h ∷ R) → Says L R
host_says L h R o says q k =
    let other : nat_eq h.parent q ≡ false = flipped h.parent q (other_number R h.parent q o k) in
    says q (or_right (nat_eq h.number q) k) ∙ rw other refl
  where
    or_right : (b : Bool) → has_host R q ≡ true → (b || has_host R q) ≡ true
    or_right true h = refl
    or_right false h = h

host_front : (L : List Host) (a : Around) (n : ℕ) (h : Host) (ns fs : Forest) → h.number ≡ n → h.parent ≡ a.host → AreNumbered_in ns → AreNumbered_in fs
    → nat_eq n a.host ≡ false
    → has_host (filter_map host_at (spots_in (around_children a (of_host (Some n))) ns ++ spots_in a fs)) n ≡ false
    → Says L (h ∷ filter_map host_at (spots_in (around_children a (of_host (Some n))) ns ++ spots_in a fs))
    → children_in L n ≡ front_in ns
host_front L a n h ns fs num par k l other o says =
    let out = split_hosts a (around_children a (of_host (Some n))) ns fs n o in
    let self : nat_eq n n ≡ true = (Decides-eqb n n).1 refl in
    let turned : nat_eq a.host n ≡ false = flipped a.host n other in
    let own : nat_eq h.number n ≡ true = ap (λ m. nat_eq m n) num ∙ self in
    let away : nat_eq h.parent n ≡ false = ap (λ m. nat_eq m n) par ∙ turned in
    let inner : children_in (hosts_in (around_children a (of_host (Some n))) ns) n ≡ front_in ns = front_children_in (around_children a (of_host (Some n))) ns n k out.0 ∙ rw self refl in
    let outer : children_in (hosts_in a fs) n ≡ [] = nothing_in a fs l n out.1 turned in
    says n (ap (λ b. b || has_host (filter_map host_at (spots_in (around_children a (of_host (Some n))) ns ++ spots_in a fs)) n) own)
    ∙ rw away (split_children a (around_children a (of_host (Some n))) ns fs n ∙ rw (inner, outer) (append-nil (front_in ns)))

mutual
  pub fronts_are : (L : List Host) (a : Around) (n : Node) → AreNumbered n → AreDistinct (hosts_at a n) → has_host (hosts_at a n) a.host ≡ false
      → ((q : ℕ) → has_host (hosts_at a n) q ≡ true → children_in L q ≡ children_in (hosts_at a n) q) → FrontsAre L n
  fronts_are L a (node e (of_host None) ns fs) k d o says = absurd k.0
  fronts_are L a (node e (of_host (Some n)) ns fs) k d o says =
      let h : Host = host_as a n k.0.0 in
      let rest : List Host = filter_map host_at (spots_in (around_children a (of_host (Some n))) ns ++ spots_in a fs) in
      let first : hosts_at a (node e (of_host (Some n)) ns fs) ≡ h ∷ rest = host_first a e n ns fs k.0.0 k.0.1 in
      let d' : AreDistinct (h ∷ rest) = subst AreDistinct first d in
      let o' : has_host (h ∷ rest) a.host ≡ false = subst (λ hs. has_host hs a.host ≡ false) first o in
      let says' : Says L (h ∷ rest) = subst (Says L) first says in
      let out = neither _ _ o' in
      let both = rest_parts L a (around_children a (of_host (Some n))) ns fs k.1 k.2 d'.1 out.1 d'.0
      (host_says L h (filter_map host_at (spots_in (around_children a (of_host (Some n))) ns ++ spots_in a fs)) out.1 says') in (
        λ m e. subst (λ m. children_in L m ≡ front_in ns) (same_Some n m e) (host_front L a n h ns fs refl refl k.1 k.2 out.0 d'.0 says'),
        fronts_in L (around_children a (of_host (Some n))) ns k.1 both.0 both.1 both.2,
        fronts_in L a fs k.2 both.3 both.4 both.5,
      )
  fronts_are L a (node e (of_instance i) ns fs) k d o says =
      let both = rest_parts L a (around_children a (of_instance i)) ns fs k.1 k.2 d o o says in
      (λ n h. absurd (none-some n h), fronts_in L (around_children a (of_instance i)) ns k.1 both.0 both.1 both.2, fronts_in L a fs k.2 both.3 both.4 both.5)
  fronts_are L a (node e plain ns fs) k d o says =
      let both = rest_parts L a (around_children a plain) ns fs k.1 k.2 d o o says in
      (λ n h. absurd (none-some n h), fronts_in L (around_children a plain) ns k.1 both.0 both.1 both.2, fronts_in L a fs k.2 both.3 both.4 both.5)
  fronts_are L a (node e (of_boundary Shown) ns fs) k d o says =
      let both = rest_parts L a (around_children a (of_boundary Shown)) ns fs k.1 k.2 d o o says in
      (λ n h. absurd (none-some n h), fronts_in L (around_children a (of_boundary Shown)) ns k.1 both.0 both.1 both.2, fronts_in L a fs k.2 both.3 both.4 both.5)
  fronts_are L a (node e (of_boundary (Hidden w)) ns fs) k d o says =
      let both = rest_parts L a (around_children a (of_boundary (Hidden w))) ns fs k.1 k.2 d o o says in
      (λ n h. absurd (none-some n h), fronts_in L (around_children a (of_boundary (Hidden w))) ns k.1 both.0 both.1 both.2, fronts_in L a fs k.2 both.3 both.4 both.5)
  fronts_are L a (node e (of_catcher z) ns fs) k d o says =
      let both = rest_parts L a (around_children a (of_catcher z)) ns fs k.1 k.2 d o o says in
      (λ n h. absurd (none-some n h), fronts_in L (around_children a (of_catcher z)) ns k.1 both.0 both.1 both.2, fronts_in L a fs k.2 both.3 both.4 both.5)

  pub fronts_in : (L : List Host) (a : Around) (ns : Forest) → AreNumbered_in ns → AreDistinct (hosts_in a ns) → has_host (hosts_in a ns) a.host ≡ false
      → ((q : ℕ) → has_host (hosts_in a ns) q ≡ true → children_in L q ≡ children_in (hosts_in a ns) q) → FrontsAre_in L ns
  fronts_in L a none k d o says = tt
  fronts_in L a (vacant ns) k d o says = fronts_in L a ns k d o says
  fronts_in L a (child n ns) k d o says =
      let e : hosts_in a (child n ns) ≡ hosts_at a n ++ hosts_in a ns = in-child a n ns in
      let out : (has_host (hosts_at a n) a.host ≡ false) × (has_host (hosts_in a ns) a.host ≡ false) =
      neither _ _ (sym (has_host-append (hosts_at a n) (hosts_in a ns) a.host) ∙ ap (λ hs. has_host hs a.host) (sym e) ∙ o) in
      let parts = distinct-append (hosts_at a n) (hosts_in a ns) (subst AreDistinct e d) in
      let says' : Says L (hosts_at a n ++ hosts_in a ns) = subst (Says L) e says in (
        fronts_are L a n k.0 parts.0 out.0
            (left_part L (hosts_at a n) (hosts_in a ns) a.host a.host (nothing_at a n k.0) (nothing_in a ns k.1) parts.2 out.1 out.0 says'),
        fronts_in L a ns k.1 parts.1 out.1
            (right_part L (hosts_at a n) (hosts_in a ns) a.host a.host (nothing_at a n k.0) (nothing_in a ns k.1) parts.2 out.1 out.0 says'),
      )

-- in the listing of a tree, the children of each host are the hosts at the front of its children
pub fronts_in_listing : (a : Around) (n : Node) → AreNumbered n → AreDistinct (hosts_at a n) → has_host (hosts_at a n) a.host ≡ false → FrontsAre (hosts_at a n) n
fronts_in_listing a n k d o = fronts_are (hosts_at a n) a n k d o (λ q h. refl)
