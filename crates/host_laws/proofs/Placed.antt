-- A host of a new tree is placed exactly if its change is displaced.
use Rattle.std.specs.Prelude.{◌≡◌, ℕ, Bool, true, false, not, ◌&&◌, ◌||◌, List, [], ◌∷◌, ◌++◌, Option, Some, None, filter_map, nat_eq, refl, if◌then◌else◌}
use Rattle.std.specs.List.{cons_option}
use Rattle.std.proofs.Common.{sym, ◌∙◌, ap, subst, arith}
use Rattle.std.proofs.lemmas.Bool.Decides.{nat_tests, Decides-eqb}
use Rattle.std.proofs.lemmas.List.Elements.{filter_map-append}
use Rattle.std.proofs.lemmas.Option.{same_Some}
use Rattle.host_laws.specs.Commits.{first_past, rest_pasts, AreNumbered, AreNumbered_in, Rendered, Rendered_in}
use Rattle.host_laws.specs.Related.{AreDistinct, stands}
use Rattle.rx_elem.specs.Compare.{Past, Change, Above, change_of, above_children, above_fallback, pasts, changes, changes_in, compare, compare_in, comparison}
use Rattle.rx_elem.specs.Spots.{Around, around_children, spots_in}
use Rattle.rx_elem.specs.Elements.{Element}
use Rattle.rx_elem.specs.Trees.{Mark, host_number, is_host, of_instance, of_host, of_boundary, of_catcher, plain, Node, node, Forest, none, vacant, child, elements_in, children_if, fallback_if}
use Rattle.rx_forest.specs.HostOps.{is_placed, placed_in, placed_hosts}
use Rattle.rx_forest.specs.Hosts.{Host, Content, content_of, host_at, host_as, has_host}
use Rattle.host_laws.proofs.Fronts.{Fair, Fair_in}
use Rattle.host_laws.proofs.Placing.{neither}
use Rattle.host_laws.proofs.Placements.{other_number}
use Rattle.host_laws.proofs.Listing.{hosts_at, hosts_in, in-child, host_first, other_first, no_number, has_host-append, distinct-append, split_hosts}

placed-append : (xs ys : List Change) (q : ℕ) → is_placed (placed_hosts (xs ++ ys)) q ≡ (is_placed (placed_hosts xs) q || is_placed (placed_hosts ys) q)
placed-append xs ys q = ap (λ ns. is_placed ns q) (filter_map-append placed_in xs ys) ∙ any-append (placed_hosts xs)
  where
    any-append : (ns : List ℕ) → is_placed (ns ++ placed_hosts ys) q ≡ (is_placed ns q || is_placed (placed_hosts ys) q)
    any-append [] = refl
    any-append (n ∷ ns) = ap (λ b. nat_eq q n || b) (any-append ns) ∙ go (nat_eq q n)
      where
        go : (b : Bool) → (b || (is_placed ns q || is_placed (placed_hosts ys) q)) ≡ ((b || is_placed ns q) || is_placed (placed_hosts ys) q)
        go true = refl
        go false = refl

own_placed : (d : Bool) (n q : ℕ) (rest : List ℕ) → is_placed (cons_option (if d then Some n else None) rest) q ≡ ((d && nat_eq q n) || is_placed rest q)
own_placed true n q rest = refl
own_placed false n q rest = refl

not_own : (d : Bool) (o : Option ℕ) (rest : List ℕ) → o ≡ None → cons_option (if d then o else None) rest ≡ rest
not_own true o rest e = rw e refl
not_own false o rest e = refl

flipped : (m n : ℕ) → nat_eq n m ≡ false → nat_eq m n ≡ false
flipped m n e = grind (arith, nat_tests)

abbrev Placed : Above → Past → Node → ℕ → Bool
Placed a p n q = is_placed (placed_hosts (changes (compare a p n))) q

abbrev Placed_in : Above → List Past → Forest → ℕ → Bool
Placed_in a ps ns q = is_placed (placed_hosts (changes_in (compare_in a ps ns))) q

and_false : (d b : Bool) → b ≡ false → (d && b) ≡ false
and_false true b e = e
and_false false b e = refl

-- a comparison of children, by the past of the first one and those of the others
pub compare_in-vacant : (a : Above) (ps : List Past) (ns : Forest) → compare_in a ps (vacant ns) ≡ compare_in a (rest_pasts ps) ns
compare_in-vacant a [] ns = refl
compare_in-vacant a (p ∷ ps) ns = refl

pub compare_in-child : (a : Above) (ps : List Past) (n : Node) (ns : Forest)
    → compare_in a ps (child n ns) ≡ comparison (compare a (first_past ps) n) (compare_in a (rest_pasts ps) ns)
compare_in-child a [] n ns = refl
compare_in-child a (p ∷ ps) n ns = refl

-- what is placed below a node
abbrev PlacedBelow : Change → Node → ℕ → Bool
PlacedBelow c (node e m ns fs) q =
    Placed_in (above_children c) (pasts (children_if c.old) (elements_in ns)) ns q || Placed_in (above_fallback c) (pasts (fallback_if c.old) (elements_in fs)) fs q

placed_host : (a : Above) (p : Past) (e : Element) (n : ℕ) (ns fs : Forest) (q : ℕ) → let t = node e (of_host (Some n)) ns fs in let c = change_of a p t in
    Placed a p t q ≡ ((c.displaced && nat_eq q n) || PlacedBelow c t q)
placed_host a p e n ns fs q =
    let c = change_of a p (node e (of_host (Some n)) ns fs) in
    let xs = changes_in (compare_in (above_children c) (pasts (children_if p.old) (elements_in ns)) ns) in
    let ys = changes_in (compare_in (above_fallback c) (pasts (fallback_if p.old) (elements_in fs)) fs) in
    own_placed c.displaced n q (placed_hosts (xs ++ ys)) ∙ ap (λ b. (c.displaced && nat_eq q n) || b) (placed-append xs ys q)

placed_other : (a : Above) (p : Past) (e : Element) (m : Mark) (ns fs : Forest) (q : ℕ) → host_number m ≡ None → let t = node e m ns fs in
    Placed a p t q ≡ PlacedBelow (change_of a p t) t q
placed_other a p e m ns fs q unnumbered =
    let c = change_of a p (node e m ns fs) in
    let xs = changes_in (compare_in (above_children c) (pasts (children_if p.old) (elements_in ns)) ns) in
    let ys = changes_in (compare_in (above_fallback c) (pasts (fallback_if p.old) (elements_in fs)) fs) in
    ap (λ ns. is_placed ns q) (not_own c.displaced (host_number m) (placed_hosts (xs ++ ys)) unnumbered) ∙ placed-append xs ys q

-- if a part of a tree has no such host, none of that number is placed in it
abbrev NotPlaced : Above → List Past → Forest → Around → Type 0
NotPlaced a ps ns b = (q : ℕ) → has_host (hosts_in b ns) q ≡ false → Placed_in a ps ns q ≡ false

not_placed_other : (a : Above) (p : Past) (e : Element) (m : Mark) (ns fs : Forest) (b : Around) (q : ℕ) → is_host m ≡ false
    → has_host (hosts_at b (node e m ns fs)) q ≡ false
    → NotPlaced (above_children (change_of a p (node e m ns fs))) (pasts (children_if p.old) (elements_in ns)) ns (around_children b m)
    → NotPlaced (above_fallback (change_of a p (node e m ns fs))) (pasts (fallback_if p.old) (elements_in fs)) fs b
    → Placed a p (node e m ns fs) q ≡ false
not_placed_other a p e m ns fs b q other h first second =
    let out = split_hosts b (around_children b m) ns fs q (subst (λ hs. has_host hs q ≡ false) (other_first b e m ns fs other) h) in
    placed_other a p e m ns fs q (no_number m other) ∙ rw (first q out.0, second q out.1) refl

not_placed_host : (a : Above) (p : Past) (e : Element) (n : ℕ) (ns fs : Forest) (b : Around) (q : ℕ) (c : Content) → content_of e ≡ Some c
    → has_host (hosts_at b (node e (of_host (Some n)) ns fs)) q ≡ false
    → NotPlaced (above_children (change_of a p (node e (of_host (Some n)) ns fs))) (pasts (children_if p.old) (elements_in ns)) ns (around_children b (of_host (Some n)))
    → NotPlaced (above_fallback (change_of a p (node e (of_host (Some n)) ns fs))) (pasts (fallback_if p.old) (elements_in fs)) fs b
    → Placed a p (node e (of_host (Some n)) ns fs) q ≡ false
not_placed_host a p e n ns fs b q c k h first second =
    let parts = neither _ _ (subst (λ hs. has_host hs q ≡ false) (host_first b e n ns fs c k) h) in
    let out = split_hosts b (around_children b (of_host (Some n))) ns fs q parts.1 in
    placed_host a p e n ns fs q
    ∙ rw (and_false (change_of a p (node e (of_host (Some n)) ns fs)).displaced (nat_eq q n) (flipped q n parts.0), first q out.0, second q out.1) refl

mutual
  -- what is no host's number isn't placed
  pub not_placed : (a : Above) (p : Past) (n : Node) (b : Around) → AreNumbered n → (q : ℕ) → has_host (hosts_at b n) q ≡ false → Placed a p n q ≡ false
  not_placed a p (node e (of_host None) ns fs) b k q h = absurd k.0
  not_placed a p (node e (of_host (Some n)) ns fs) b k q h =
      let c = change_of a p (node e (of_host (Some n)) ns fs) in
      not_placed_host a p e n ns fs b q k.0.0 k.0.1 h
      (none_placed (above_children c) (pasts (children_if p.old) (elements_in ns)) ns (around_children b (of_host (Some n))) k.1)
      (none_placed (above_fallback c) (pasts (fallback_if p.old) (elements_in fs)) fs b k.2)
  not_placed a p (node e (of_instance i) ns fs) b k q h =
      let c = change_of a p (node e (of_instance i) ns fs) in
      not_placed_other a p e (of_instance i) ns fs b q refl h
      (none_placed (above_children c) (pasts (children_if p.old) (elements_in ns)) ns (around_children b (of_instance i)) k.1)
      (none_placed (above_fallback c) (pasts (fallback_if p.old) (elements_in fs)) fs b k.2)
  not_placed a p (node e (of_boundary s) ns fs) b k q h =
      let c = change_of a p (node e (of_boundary s) ns fs) in
      not_placed_other a p e (of_boundary s) ns fs b q refl h
      (none_placed (above_children c) (pasts (children_if p.old) (elements_in ns)) ns (around_children b (of_boundary s)) k.1)
      (none_placed (above_fallback c) (pasts (fallback_if p.old) (elements_in fs)) fs b k.2)
  not_placed a p (node e (of_catcher z) ns fs) b k q h =
      let c = change_of a p (node e (of_catcher z) ns fs) in
      not_placed_other a p e (of_catcher z) ns fs b q refl h
      (none_placed (above_children c) (pasts (children_if p.old) (elements_in ns)) ns (around_children b (of_catcher z)) k.1)
      (none_placed (above_fallback c) (pasts (fallback_if p.old) (elements_in fs)) fs b k.2)
  not_placed a p (node e plain ns fs) b k q h =
      let c = change_of a p (node e plain ns fs) in
      not_placed_other a p e plain ns fs b q refl h
      (none_placed (above_children c) (pasts (children_if p.old) (elements_in ns)) ns (around_children b plain) k.1)
      (none_placed (above_fallback c) (pasts (fallback_if p.old) (elements_in fs)) fs b k.2)

  none_placed : (a : Above) (ps : List Past) (ns : Forest) (b : Around) → AreNumbered_in ns → NotPlaced a ps ns b
  none_placed a ps none b k q h = refl
  none_placed a ps (vacant ns) b k q h =
      ap (λ cs. is_placed (placed_hosts (changes_in cs)) q) (compare_in-vacant a ps ns) ∙ none_placed a (rest_pasts ps) ns b k q h
  none_placed a ps (child n ns) b k q h =
      let out : (has_host (hosts_at b n) q ≡ false) × (has_host (hosts_in b ns) q ≡ false) =
      neither _ _ (sym (has_host-append (hosts_at b n) (hosts_in b ns) q) ∙ ap (λ hs. has_host hs q) (sym (in-child b n ns)) ∙ h) in
      ap (λ cs. is_placed (placed_hosts (changes_in cs)) q) (compare_in-child a ps n ns)
      ∙ placed-append (changes (compare a (first_past ps) n)) (changes_in (compare_in a (rest_pasts ps) ns)) q
      ∙ rw (not_placed a (first_past ps) n b k.0 q out.0, none_placed a (rest_pasts ps) ns b k.1 q out.1) refl

or_false : (b c : Bool) → c ≡ false → (b || c) ≡ b
or_false true c e = refl
or_false false c e = e

or_yes : (b c : Bool) → c ≡ true → (b || c) ≡ true
or_yes true c e = refl
or_yes false c e = e

apart_turned : (X Y : List Host) → ((q : ℕ) → has_host X q ≡ true → has_host Y q ≡ false) → (q : ℕ) → has_host Y q ≡ true → has_host X q ≡ false
apart_turned X Y apart q h = go (has_host X q) refl
  where
    go : (b : Bool) → has_host X q ≡ b → b ≡ false
    go true e = let l : has_host Y q ≡ false = apart q e in absurd (cc)
    go false e = refl

-- the parts of what is below a node
abbrev Parts : List ℕ → List Host → List Host → (ℕ → Bool) → (ℕ → Bool) → Type 0
Parts P X Y px py =
    AreDistinct X × AreDistinct Y × ((q : ℕ) → has_host X q ≡ true → is_placed P q ≡ px q) × ((q : ℕ) → has_host Y q ≡ true → is_placed P q ≡ py q)

placed_parts : (P : List ℕ) (X Y : List Host) (px py : ℕ → Bool) → AreDistinct (X ++ Y)
    → ((q : ℕ) → has_host X q ≡ false → px q ≡ false) → ((q : ℕ) → has_host Y q ≡ false → py q ≡ false)
    → ((q : ℕ) → has_host (X ++ Y) q ≡ true → is_placed P q ≡ (px q || py q)) → Parts P X Y px py
placed_parts P X Y px py d nx ny says =
    let parts = distinct-append X Y d in (
      parts.0,
      parts.1,
      (λ q h. says q (has_host-append X Y q ∙ ap (λ b. b || has_host Y q) h) ∙ or_false (px q) (py q) (ny q (parts.2 q h))),
      (λ q h. says q (has_host-append X Y q ∙ or_yes (has_host X q) (has_host Y q) h) ∙ ap (λ b. b || py q) (nx q (apart_turned X Y parts.2 q h))),
    )

-- what is placed says of a part of a tree
abbrev SaysOf : List ℕ → List Host → (ℕ → Bool) → Type 0
SaysOf P hs placed = (q : ℕ) → has_host hs q ≡ true → is_placed P q ≡ placed q

-- the parts below a node
parts_below : (P : List ℕ) (a : Above) (p : Past) (e : Element) (m : Mark) (ns fs : Forest) (b : Around) → AreNumbered_in ns → AreNumbered_in fs
    → let t = node e m ns fs in let c = change_of a p t in
    AreDistinct (filter_map host_at (spots_in (around_children b m) ns ++ spots_in b fs))
    → SaysOf P (filter_map host_at (spots_in (around_children b m) ns ++ spots_in b fs)) (PlacedBelow c t)
    → Parts P (hosts_in (around_children b m) ns) (hosts_in b fs)
    (Placed_in (above_children c) (pasts (children_if p.old) (elements_in ns)) ns) (Placed_in (above_fallback c) (pasts (fallback_if p.old) (elements_in fs)) fs)
parts_below P a p e m ns fs b k l d says =
    let c = change_of a p (node e m ns fs) in
    let eq = filter_map-append host_at (spots_in (around_children b m) ns) (spots_in b fs) in
    placed_parts P (hosts_in (around_children b m) ns) (hosts_in b fs)
    (Placed_in (above_children c) (pasts (children_if p.old) (elements_in ns)) ns) (Placed_in (above_fallback c) (pasts (fallback_if p.old) (elements_in fs)) fs)
    (subst AreDistinct eq d)
    (none_placed (above_children c) (pasts (children_if p.old) (elements_in ns)) ns (around_children b m) k)
    (none_placed (above_fallback c) (pasts (fallback_if p.old) (elements_in fs)) fs b l)
    (λ q h. says q (ap (λ hs. has_host hs q) eq ∙ h))

-- the parts below what is no host
other_parts : (P : List ℕ) (a : Above) (p : Past) (e : Element) (m : Mark) (ns fs : Forest) (b : Around) → is_host m ≡ false → AreNumbered_in ns → AreNumbered_in fs
    → let t = node e m ns fs in let c = change_of a p t in
    AreDistinct (hosts_at b t) → SaysOf P (hosts_at b t) (Placed a p t)
    → Parts P (hosts_in (around_children b m) ns) (hosts_in b fs)
    (Placed_in (above_children c) (pasts (children_if p.old) (elements_in ns)) ns) (Placed_in (above_fallback c) (pasts (fallback_if p.old) (elements_in fs)) fs)
other_parts P a p e m ns fs b other k l d says =
    let first = other_first b e m ns fs other in
    parts_below P a p e m ns fs b k l (subst AreDistinct first d)
    (λ q h. says q (ap (λ hs. has_host hs q) first ∙ h) ∙ placed_other a p e m ns fs q (no_number m other))

-- a host, and the parts below it
host_parts : (P : List ℕ) (a : Above) (p : Past) (e : Element) (n : ℕ) (ns fs : Forest) (b : Around) (x : Content) → content_of e ≡ Some x
    → AreNumbered_in ns → AreNumbered_in fs → let t = node e (of_host (Some n)) ns fs in let c = change_of a p t in
    AreDistinct (hosts_at b t) → SaysOf P (hosts_at b t) (Placed a p t)
    → (is_placed P n ≡ c.displaced) × Parts P (hosts_in (around_children b (of_host (Some n))) ns) (hosts_in b fs)
    (Placed_in (above_children c) (pasts (children_if p.old) (elements_in ns)) ns) (Placed_in (above_fallback c) (pasts (fallback_if p.old) (elements_in fs)) fs)
host_parts P a p e n ns fs b x is k l d0 says0 = (own, parts_below P a p e (of_host (Some n)) ns fs b k l d.1 below)
  where
    c : Change
    c = change_of a p (node e (of_host (Some n)) ns fs)

    b' : Around
    b' = around_children b (of_host (Some n))

    rest : List Host
    rest = filter_map host_at (spots_in b' ns ++ spots_in b fs)

    d : AreDistinct (host_as b n x ∷ rest)
    d = subst AreDistinct (host_first b e n ns fs x is) d0

    says : SaysOf P (host_as b n x ∷ rest) (λ q. (c.displaced && nat_eq q n) || PlacedBelow c (node e (of_host (Some n)) ns fs) q)
    says q h = says0 q (ap (λ hs. has_host hs q) (host_first b e n ns fs x is) ∙ h) ∙ placed_host a p e n ns fs q

    below : SaysOf P rest (PlacedBelow c (node e (of_host (Some n)) ns fs))
    below q h =
        let other : nat_eq q n ≡ false = other_number rest n q d.0 h in
        says q (or_yes (nat_eq n q) (has_host rest q) h) ∙ rw (and_false c.displaced (nat_eq q n) other) refl

    last : (y : Bool) → ((y && true) || false) ≡ y
    last true = refl
    last false = refl

    self : nat_eq n n ≡ true
    self = (Decides-eqb n n).1 refl

    nothing : PlacedBelow c (node e (of_host (Some n)) ns fs) n ≡ false
    nothing =
        let out = split_hosts b b' ns fs n d.0 in
        rw (
          none_placed (above_children c) (pasts (children_if p.old) (elements_in ns)) ns b' k n out.0,
          none_placed (above_fallback c) (pasts (fallback_if p.old) (elements_in fs)) fs b l n out.1,
        ) refl

    own : is_placed P n ≡ c.displaced
    own = says n (ap (λ t. t || has_host rest n) self) ∙ ap (λ t. (c.displaced && nat_eq n n) || t) nothing ∙ rw self (last c.displaced)

mutual
  -- in a tree whose placed hosts are these, a host stands exactly if its change isn't displaced
  pub fair_from : (P : List ℕ) (k w : ℕ → Bool) (a : Above) (p : Past) (n : Node) (b : Around) → Rendered k w p n → AreNumbered n → AreDistinct (hosts_at b n)
      → SaysOf P (hosts_at b n) (Placed a p n) → Fair (stands P) k w a p n
  fair_from P k w a p (node e (of_host None) ns fs) b r num d says = absurd num.0
  fair_from P k w a p (node e (of_host (Some n)) ns fs) b r num d says =
      let c = change_of a p (node e (of_host (Some n)) ns fs) in
      let parts = host_parts P a p e n ns fs b num.0.0 num.0.1 num.1 num.2 d says in
      let same : n ≡ r.0.0 = same_Some _ _ r.0.1 in (
        (r.0.0, r.0.1, ap (stands P) (sym same) ∙ ap not parts.0, r.0.2),
        r.1,
        r.2,
        fairs_from P k w (above_children c) (pasts (children_if p.old) (elements_in ns)) ns (around_children b (of_host (Some n))) r.3 num.1 parts.1.0 parts.1.2,
        fairs_from P k w (above_fallback c) (pasts (fallback_if p.old) (elements_in fs)) fs b r.4 num.2 parts.1.1 parts.1.3,
      )
  fair_from P k w a p (node e (of_instance i) ns fs) b r num d says =
      let c = change_of a p (node e (of_instance i) ns fs) in
      let parts = other_parts P a p e (of_instance i) ns fs b refl num.1 num.2 d says in (
        r.0,
        r.1,
        r.2,
        fairs_from P k w (above_children c) (pasts (children_if p.old) (elements_in ns)) ns (around_children b (of_instance i)) r.3 num.1 parts.0 parts.2,
        fairs_from P k w (above_fallback c) (pasts (fallback_if p.old) (elements_in fs)) fs b r.4 num.2 parts.1 parts.3,
      )
  fair_from P k w a p (node e (of_boundary s) ns fs) b r num d says =
      let c = change_of a p (node e (of_boundary s) ns fs) in
      let parts = other_parts P a p e (of_boundary s) ns fs b refl num.1 num.2 d says in (
        r.0,
        r.1,
        r.2,
        fairs_from P k w (above_children c) (pasts (children_if p.old) (elements_in ns)) ns (around_children b (of_boundary s)) r.3 num.1 parts.0 parts.2,
        fairs_from P k w (above_fallback c) (pasts (fallback_if p.old) (elements_in fs)) fs b r.4 num.2 parts.1 parts.3,
      )
  fair_from P k w a p (node e (of_catcher z) ns fs) b r num d says =
      let c = change_of a p (node e (of_catcher z) ns fs) in
      let parts = other_parts P a p e (of_catcher z) ns fs b refl num.1 num.2 d says in (
        r.0,
        r.1,
        r.2,
        fairs_from P k w (above_children c) (pasts (children_if p.old) (elements_in ns)) ns (around_children b (of_catcher z)) r.3 num.1 parts.0 parts.2,
        fairs_from P k w (above_fallback c) (pasts (fallback_if p.old) (elements_in fs)) fs b r.4 num.2 parts.1 parts.3,
      )
  fair_from P k w a p (node e plain ns fs) b r num d says =
      let c = change_of a p (node e plain ns fs) in
      let parts = other_parts P a p e plain ns fs b refl num.1 num.2 d says in (
        r.0,
        r.1,
        r.2,
        fairs_from P k w (above_children c) (pasts (children_if p.old) (elements_in ns)) ns (around_children b plain) r.3 num.1 parts.0 parts.2,
        fairs_from P k w (above_fallback c) (pasts (fallback_if p.old) (elements_in fs)) fs b r.4 num.2 parts.1 parts.3,
      )

  pub fairs_from : (P : List ℕ) (k w : ℕ → Bool) (a : Above) (ps : List Past) (ns : Forest) (b : Around) → Rendered_in k w ps ns → AreNumbered_in ns → AreDistinct (hosts_in b ns)
      → SaysOf P (hosts_in b ns) (Placed_in a ps ns) → Fair_in (stands P) k w a ps ns
  fairs_from P k w a ps none b r num d says = tt
  fairs_from P k w a ps (vacant ns) b r num d says =
      fairs_from P k w a (rest_pasts ps) ns b r num d (λ q h. says q h ∙ ap (λ cs. is_placed (placed_hosts (changes_in cs)) q) (compare_in-vacant a ps ns))
  fairs_from P k w a ps (child n ns) b r num d says =
      let eq = in-child b n ns in
      let parts = placed_parts P (hosts_at b n) (hosts_in b ns) (Placed a (first_past ps) n) (Placed_in a (rest_pasts ps) ns)
      (subst AreDistinct eq d) (not_placed a (first_past ps) n b num.0) (none_placed a (rest_pasts ps) ns b num.1)
      (λ q h. says q (ap (λ hs. has_host hs q) eq ∙ h)
      ∙ ap (λ cs. is_placed (placed_hosts (changes_in cs)) q) (compare_in-child a ps n ns)
      ∙ placed-append (changes (compare a (first_past ps) n)) (changes_in (compare_in a (rest_pasts ps) ns)) q) in
      (fair_from P k w a (first_past ps) n b r.0 num.0 parts.0 parts.2, fairs_from P k w a (rest_pasts ps) ns b r.1 num.1 parts.1 parts.3)
