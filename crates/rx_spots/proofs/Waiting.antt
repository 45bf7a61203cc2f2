-- Sets of resources by a test, and what passes a test among them.
use Rattle.std.proofs.Common.{◌≡◌, ℕ, zero, suc, ◌+◌, ◌<◌, ◌≤◌, Bool, true, false, not, ◌&&◌, ◌||◌, cond, List, [], ◌∷◌, ◌++◌, Option, Some, None, length, get_or, drop, refl, sym, ap, ◌∙◌, arith, nat_eq, nat_lt, is_some, map}
use Rattle.std.specs.List.{filter, list_any, range_with_len}
use Rattle.std.proofs.lemmas.Bool.Decides.{nat_tests}
use Rattle.std.proofs.lemmas.List.{map-append}
use Rattle.std.proofs.lemmas.List.Elements.{filter-append}
use Rattle.std.proofs.lemmas.List.Folds.{list_any-append}
use Rattle.rx_base.specs.Awaits.{Awaits, awaits_where, has, nothing, union, resource_limit}
use Rattle.rx_base.specs.AwaitsLaws.{awaits_agree, has-awaits_where}
use Rattle.rx_queue.specs.Pairs.{in_versions}
use Rattle.rx_base.specs.declared.cut.Cut.{Cut}
use Rattle.rx_queue.specs.Journal.{Journal, resolved_now, resolved_by, resolved_since}
use Rattle.rx_elem.specs.Trees.{Node, node, Forest, none, vacant, child, Mark, of_instance, of_host, of_boundary, of_catcher, plain, mark_of, children_of, fallback_of, forest, awaits_in, is_hidden}
use Rattle.rx_susp.specs.declared.boundary.BoundaryState.TheVariants.{Shown, Hidden}
use Rattle.rx_elem.specs.Spots.{Around, Spot, around_children, at_root, spots, spots_in, spot_mark}
use Rattle.rx_meaning.specs.Outcome.{visible_awaits}
use Rattle.rx_spots.proofs.Lists.{front, drop-end}
use Rattle.rx_spots.specs.Waits.{AreWithinReach, all_awaited, waits_from, waits_in}

-- a set that is made by its own members
pub awaits_where-has : (p : ℕ → Bool) → awaits_where p ≡ awaits_where (has (awaits_where p))
awaits_where-has p = awaits_agree _ _ (λ r h. sym (has-awaits_where p r h))

-- what is in a set of either
pub has-union : (a : Awaits) (p : ℕ → Bool) (r : ℕ) → r < resource_limit → has (union a (awaits_where p)) r ≡ (has a r || p r)
has-union a p r h = has-awaits_where _ r h ∙ ap (λ b. has a r || b) (has-awaits_where p r h)

-- no wait is a set
pub none-where : nothing ≡ awaits_where (λ r. false)
unfolding awaits_where
none-where = refl

-- a node waits itself, or in its parts
pub waits_from-parts : (n : Node) → waits_from n ≡ (λ r. (has (awaits_in (mark_of n)) r || (not (is_hidden (mark_of n)) && waits_in (children_of n) r)) || waits_in (fallback_of n) r)
waits_from-parts (node e m ns fs) = refl

-- three sets joined
pub union_of : (own : Awaits) (p q : ℕ → Bool) → union (union own (awaits_where p)) (awaits_where q) ≡ awaits_where (λ r. (has own r || p r) || q r)
union_of own p q = awaits_agree _ _ (λ r h. ap (λ b. b || has (awaits_where q) r) (has-union own p r h) ∙ ap (λ b. (has own r || p r) || b) (has-awaits_where q r h))

-- what passes a test among the resources of a set

-- a resource more in two lists, of which one has it or the other
any_cons : (p : ℕ → Bool) (n : ℕ) (x y : Bool) (fg f g : List ℕ) → list_any p fg ≡ (list_any p f || list_any p g)
    → list_any p (cond (x || y) (n ∷ fg) fg) ≡ (list_any p (cond x (n ∷ f) f) || list_any p (cond y (n ∷ g) g))
any_cons p n true true fg f g e = both (p n) (list_any p fg) (list_any p f) (list_any p g) e
  where
    both : (b u v w : Bool) → u ≡ (v || w) → (b || u) ≡ ((b || v) || (b || w))
    both true u v w e = refl
    both false u v w e = e
any_cons p n true false fg f g e = left (p n) (list_any p fg) (list_any p f) (list_any p g) e
  where
    left : (b u v w : Bool) → u ≡ (v || w) → (b || u) ≡ ((b || v) || w)
    left true u v w e = refl
    left false u v w e = e
any_cons p n false true fg f g e = right (p n) (list_any p fg) (list_any p f) (list_any p g) e
  where
    right : (b u v w : Bool) → u ≡ (v || w) → (b || u) ≡ (v || (b || w))
    right true u true w e = refl
    right true u false w e = refl
    right false u v w e = e
any_cons p n false false fg f g e = e

-- a test of any among those that pass either of two tests
any-or : (p f g : ℕ → Bool) (ns : List ℕ) → list_any p (filter (λ r. f r || g r) ns) ≡ (list_any p (filter f ns) || list_any p (filter g ns))
any-or p f g [] = refl
any-or p f g (n ∷ ns) = any_cons p n (f n) (g n) (filter (λ r. f r || g r) ns) (filter f ns) (filter g ns) (any-or p f g ns)

-- if none passes
any-nowhere : (p : ℕ → Bool) (q a k : ℕ) → q < a → list_any p (filter (nat_eq q) (range_with_len a k)) ≡ false
any-nowhere p q a zero h = refl
any-nowhere p q a (suc k) h =
    let other : nat_eq q a ≡ false = grind (arith, nat_tests) in
    rw other (any-nowhere p q (a + 1) k (omega arith))

any-above : (p : ℕ → Bool) (q a k : ℕ) → a + k ≤ q → list_any p (filter (nat_eq q) (range_with_len a k)) ≡ false
any-above p q a zero h = refl
any-above p q a (suc k) h =
    let other : nat_eq q a ≡ false = grind (arith, nat_tests) in
    rw other (any-above p q (a + 1) k (omega arith))

-- if one passes
any-within : (p : ℕ → Bool) (q a k : ℕ) → a ≤ q → q < a + k → list_any p (filter (nat_eq q) (range_with_len a k)) ≡ p q
any-within p q a zero low high = absurd (omega arith)
any-within p q a (suc k) low high = go (λ more. any-within p q (a + 1) k more (omega arith)) (nat_eq q a) refl
  where
    rest : List ℕ
    rest = filter (nat_eq q) (range_with_len (a + 1) k)

    or_false : (b : Bool) → (b || false) ≡ b
    or_false true = refl
    or_false false = refl

    go : (a + 1 ≤ q → list_any p rest ≡ p q) → (b : Bool) → nat_eq q a ≡ b → list_any p (cond b (a ∷ rest) rest) ≡ p q
    go next true e =
        let same : q ≡ a = grind (arith, nat_tests) in
        ap (λ x. p a || x) (any-nowhere p q (a + 1) k (omega arith)) ∙ or_false (p a) ∙ ap p (sym same)
    go next false e = let more : a + 1 ≤ q = grind (arith, nat_tests) in next more

-- a test that fails from the limit on
abbrev pub IsBelow : (ℕ → Bool) → Type 0
IsBelow p = (r : ℕ) → resource_limit ≤ r → p r ≡ false

any-one : (p : ℕ → Bool) (q : ℕ) → IsBelow p → list_any p (awaits_where (nat_eq q)) ≡ p q
unfolding awaits_where
any-one p q below = go (nat_lt q resource_limit) refl
  where
    go : (b : Bool) → nat_lt q resource_limit ≡ b → list_any p (filter (nat_eq q) (range_with_len 0 resource_limit)) ≡ p q
    go true e = let lt : q < 64 = grind (arith, nat_tests) in any-within p q 0 64 (omega arith) lt
    go false e = let ge : 64 ≤ q = grind (arith, nat_tests) in any-above p q 0 64 ge ∙ sym (below q ge)

any-where_or : (p f g : ℕ → Bool) → list_any p (awaits_where (λ r. f r || g r)) ≡ (list_any p (awaits_where f) || list_any p (awaits_where g))
unfolding awaits_where
any-where_or p f g = any-or p f g (range_with_len 0 resource_limit)

any-where_none : (p : ℕ → Bool) → list_any p (awaits_where (λ r. false)) ≡ false
any-where_none p = ap (list_any p) (sym none-where)

-- the members of a list, as a set, pass a test as the list does
any-where_has : (p : ℕ → Bool) → IsBelow p → (waits : Awaits) → list_any p (awaits_where (has waits)) ≡ list_any p waits
any-where_has p below [] = any-where_none p
any-where_has p below (q ∷ waits) =
    any-where_or p (nat_eq q) (has waits) ∙ ap (λ b. b || list_any p (awaits_where (has waits))) (any-one p q below) ∙ ap (λ b. p q || b) (any-where_has p below waits)

-- so do the members of several lists
any-where_any : (p : ℕ → Bool) → IsBelow p → (all : List Awaits) → list_any p (awaits_where (λ r. list_any (λ waits. has waits r) all)) ≡ list_any (list_any p) all
any-where_any p below [] = any-where_none p
any-where_any p below (waits ∷ all) =
    any-where_or p (has waits) (λ r. list_any (λ w. has w r) all)
    ∙ ap (λ b. b || list_any p (awaits_where (λ r. list_any (λ w. has w r) all))) (any-where_has p below waits)
    ∙ ap (λ b. list_any p waits || b) (any-where_any p below all)

-- this version of a resource was resolved after the cut
abbrev is_since : (version : ℕ → ℕ) → Cut → Journal → ℕ → Bool
is_since version cut j r = is_some (resolved_now j r (version r)) && not (is_some (resolved_by cut j r (version r)))

-- so a test of resources in their versions is one of the resources
since-in : (version : ℕ → ℕ) (cut : Cut) (j : Journal) (waits : Awaits) → resolved_since cut j (in_versions version waits) ≡ list_any (is_since version cut j) waits
since-in version cut j [] = refl
since-in version cut j (r ∷ waits) = ap (λ b. is_since version cut j r || b) (since-in version cut j waits)

since-each : (version : ℕ → ℕ) (cut : Cut) (j : Journal) (all : List Awaits)
    → list_any (λ waits. resolved_since cut j (in_versions version waits)) all ≡ list_any (list_any (is_since version cut j)) all
since-each version cut j [] = refl
since-each version cut j (waits ∷ all) =
    ap (λ b. b || list_any (λ w. resolved_since cut j (in_versions version w)) all) (since-in version cut j waits)
    ∙ ap (λ b. list_any (is_since version cut j) waits || b) (since-each version cut j all)

-- one of the resources that a tree waits for was resolved after the cut if one boundary's was
pub resolved_since-all_awaited : (version : ℕ → ℕ) (cut : Cut) (j : Journal) → AreWithinReach j → (tree : Option Node)
    → resolved_since cut j (in_versions version (all_awaited tree)) ≡ list_any (λ waits. resolved_since cut j (in_versions version waits)) (visible_awaits tree)
resolved_since-all_awaited version cut j reach tree =
    since-in version cut j (all_awaited tree)
    ∙ any-where_any (is_since version cut j) (λ r h. ap (λ v. is_some v && not (is_some (resolved_by cut j r (version r)))) (reach r (version r) h)) (visible_awaits tree)
    ∙ sym (since-each version cut j (visible_awaits tree))

-- What a tree waits for, over its nodes in tree order

-- the hidden boundaries among some spots
abbrev hidden_of : List Spot → List Spot
hidden_of = filter (λ s. is_hidden (spot_mark s))

-- the waits of those that are visible
abbrev waits_at : List Spot → List Awaits
waits_at ss = map (λ s. awaits_in (spot_mark s)) (filter (λ s. s.around.visible) (hidden_of ss))

-- one of these boundaries waits for a resource
abbrev is_waited : List Spot → ℕ → Bool
is_waited ss r = list_any (λ waits. has waits r) (waits_at ss)

is_waited-append : (ss ts : List Spot) (r : ℕ) → is_waited (ss ++ ts) r ≡ (is_waited ss r || is_waited ts r)
is_waited-append ss ts r =
    ap (λ xs. list_any (λ waits. has waits r) (map (λ s. awaits_in (spot_mark s)) (filter (λ s. s.around.visible) xs))) (filter-append (λ s. is_hidden (spot_mark s)) ss ts)
    ∙ ap (λ xs. list_any (λ waits. has waits r) (map (λ s. awaits_in (spot_mark s)) xs)) (filter-append (λ s. s.around.visible) (hidden_of ss) (hidden_of ts))
    ∙ ap (list_any (λ waits. has waits r)) (map-append (λ s. awaits_in (spot_mark s)) (filter (λ s. s.around.visible) (hidden_of ss)) (filter (λ s. s.around.visible) (hidden_of ts)))
    ∙ list_any-append (λ waits. has waits r) (waits_at ss) (waits_at ts)

-- a boundary that is shown waits for nothing, and so does what is no boundary
shown_waits : (m : Mark) (r : ℕ) → is_hidden m ≡ false → has (awaits_in m) r ≡ false
shown_waits (of_instance i) r h = refl
shown_waits (of_host n) r h = refl
shown_waits (of_boundary Shown) r h = refl
shown_waits (of_boundary (Hidden waits)) r h = absurd (cc)
shown_waits (of_catcher c) r h = refl
shown_waits plain r h = refl

-- one spot more
is_waited-cons : (s : Spot) (ss : List Spot) (r : ℕ) → is_waited (s ∷ ss) r ≡ ((s.around.visible && has (awaits_in (spot_mark s)) r) || is_waited ss r)
is_waited-cons s ss r = go (is_hidden (spot_mark s)) refl s.around.visible refl
  where
    hidden : List Spot
    hidden = filter (λ s. is_hidden (spot_mark s)) ss

    inner : (v : Bool) → list_any (λ waits. has waits r) (map (λ s. awaits_in (spot_mark s)) (cond v (s ∷ filter (λ s. s.around.visible) hidden) (filter (λ s. s.around.visible) hidden))) ≡ ((v && has (awaits_in (spot_mark s)) r) || is_waited ss r)
    inner true = refl
    inner false = refl

    not_waiting : (v w : Bool) → w ≡ false → (x : Bool) → x ≡ ((v && w) || x)
    not_waiting true true e x = absurd (cc)
    not_waiting true false e x = refl
    not_waiting false w e x = refl

    go : (b : Bool) → is_hidden (spot_mark s) ≡ b → (v : Bool) → s.around.visible ≡ v
        → list_any (λ waits. has waits r) (map (λ s. awaits_in (spot_mark s)) (filter (λ s. s.around.visible) (cond b (s ∷ hidden) hidden))) ≡ ((s.around.visible && has (awaits_in (spot_mark s)) r) || is_waited ss r)
    go true e v f = inner s.around.visible
    go false e v f = not_waiting s.around.visible (has (awaits_in (spot_mark s)) r) (shown_waits (spot_mark s) r e) (is_waited ss r)

-- below a node it is visible if the node is, unless that keeps its children
visible_below : (a : Around) (m : Mark) → (around_children a m).visible ≡ (not (is_hidden m) && a.visible)
visible_below a (of_instance i) = refl
visible_below a (of_host None) = refl
visible_below a (of_host (Some n)) = refl
visible_below a (of_boundary Shown) = refl
visible_below a (of_boundary (Hidden waits)) = refl
visible_below a (of_catcher c) = refl
visible_below a plain = refl

joined : (v own hidden inside behind x y : Bool) → x ≡ ((hidden && v) && inside) → y ≡ (v && behind) → ((v && own) || (x || y)) ≡ (v && ((own || (hidden && inside)) || behind))
joined v own hidden inside behind x y e f = ap (λ z. (v && own) || (z || y)) e ∙ ap (λ z. (v && own) || (((hidden && v) && inside) || z)) f ∙ cases v own hidden
  where
    cases : (v own hidden : Bool) → ((v && own) || (((hidden && v) && inside) || (v && behind))) ≡ (v && ((own || (hidden && inside)) || behind))
    cases true true h = refl
    cases true false true = refl
    cases true false false = refl
    cases false own true = refl
    cases false own false = refl

and_false : (v : Bool) → false ≡ (v && false)
and_false true = refl
and_false false = refl

either : (v a b x y : Bool) → x ≡ (v && a) → y ≡ (v && b) → (x || y) ≡ (v && (a || b))
either true a b x y e f = ap (λ z. z || y) e ∙ ap (λ z. a || z) f
either false a b x y e f = ap (λ z. z || y) e ∙ f

mutual
  is_waited-spots : (a : Around) (n : Node) (r : ℕ) → is_waited (spots a n) r ≡ (a.visible && waits_from n r)
  is_waited-spots a (node e m ns fs) r =
      is_waited-cons (record { at = node e m ns fs; around = a }) (spots_in (around_children a m) ns ++ spots_in a fs) r
      ∙ ap (λ b. (a.visible && has (awaits_in m) r) || b) (is_waited-append (spots_in (around_children a m) ns) (spots_in a fs) r)
      ∙ joined a.visible (has (awaits_in m) r) (not (is_hidden m)) (waits_in ns r) (waits_in fs r) (is_waited (spots_in (around_children a m) ns) r) (is_waited (spots_in a fs) r)
      (is_waited-spots_in (around_children a m) ns r ∙ ap (λ v. v && waits_in ns r) (visible_below a m)) (is_waited-spots_in a fs r)

  is_waited-spots_in : (a : Around) (ns : Forest) (r : ℕ) → is_waited (spots_in a ns) r ≡ (a.visible && waits_in ns r)
  is_waited-spots_in a none r = and_false a.visible
  is_waited-spots_in a (vacant ns) r = is_waited-spots_in a ns r
  is_waited-spots_in a (child n ns) r =
      is_waited-append (spots a n) (spots_in a ns) r ∙ either a.visible (waits_from n r) (waits_in ns r) _ _ (is_waited-spots a n r) (is_waited-spots_in a ns r)

-- the resources that a tree waits for
pub all_awaited-some : (n : Node) → awaits_where (waits_from n) ≡ all_awaited (Some n)
all_awaited-some n = awaits_agree _ _ (λ r h. sym (is_waited-spots at_root n r))

-- no tree waits for nothing
pub all_awaited-none : nothing ≡ all_awaited None
all_awaited-none = none-where

-- What a walk over a tree joins

-- a node that shows its children waits itself, in its children and in its fallback
pub node_waits : (n : Node) (own inside behind : Awaits) → own ≡ awaits_in (mark_of n) → is_hidden (mark_of n) ≡ false → inside ≡ awaits_where (waits_in (children_of n)) → behind ≡ awaits_where (waits_in (fallback_of n))
    → union (union own inside) behind ≡ awaits_where (waits_from n)
node_waits (node e m ns fs) own inside behind eo h ei eb =
    ap (λ x. union (union own x) behind) ei
    ∙ ap (λ y. union (union own (awaits_where (waits_in ns))) y) eb
    ∙ union_of own (waits_in ns) (waits_in fs)
    ∙ awaits_agree _ _ (λ r lt. ap (λ w. (has w r || waits_in ns r) || waits_in fs r) eo ∙ ap (λ b. (has (awaits_in m) r || (not b && waits_in ns r)) || waits_in fs r) (sym h))

or_assoc : (a b c : Bool) → ((a || b) || c) ≡ (a || (b || c))
or_assoc true b c = refl
or_assoc false b c = refl

or_false : (b : Bool) → b ≡ (b || false)
or_false true = refl
or_false false = refl

-- one that hides them waits itself and in its fallback
pub hidden_waits : (n : Node) (own behind : Awaits) → own ≡ awaits_in (mark_of n) → is_hidden (mark_of n) ≡ true → behind ≡ awaits_where (waits_in (fallback_of n)) → union own behind ≡ awaits_where (waits_from n)
hidden_waits (node e m ns fs) own behind eo h eb =
    ap (union own) eb
    ∙ awaits_agree _ _ (λ r lt.
    ap (λ b. has own r || b) (has-awaits_where (waits_in fs) r lt)
    ∙ ap (λ w. has w r || waits_in fs r) eo
    ∙ ap (λ b. b || waits_in fs r) (or_false (has (awaits_in m) r))
    ∙ ap (λ b. (has (awaits_in m) r || (not b && waits_in ns r)) || waits_in fs r) (sym h))

-- a set so far: it is one by its members, and with what is waited for from a place on it is a whole
abbrev pub MakesWhole : (whole : ℕ → Bool) → List (Option Node) → ℕ → Awaits → Type 0
MakesWhole whole ns k waits =
    (waits ≡ awaits_where (has waits)) × ((r : ℕ) → r < resource_limit → (has waits r || waits_in (forest (drop k ns)) r) ≡ whole r)

-- one node more
pub waits-more : (whole : ℕ → Bool) (ns : List (Option Node)) (k : ℕ) (o : Option Node) (n : Node) (before one after : Awaits) → k < length ns → o ≡ get_or ns k o → o ≡ Some n
    → one ≡ awaits_where (waits_from n) → after ≡ union before one → MakesWhole whole ns k before → MakesWhole whole ns (k + 1) after
waits-more whole ns k o n before one after h e f g j m = (is ∙ awaits_where-has _ ∙ ap (λ w. awaits_where (has w)) (sym is), λ r lt. more r lt)
  where
    is : after ≡ union before (awaits_where (waits_from n))
    is = j ∙ ap (union before) g

    here : (r : ℕ) → waits_in (forest (drop k ns)) r ≡ (waits_from n r || waits_in (forest (drop (k + 1) ns)) r)
    here r = ap (λ xs. waits_in (forest xs) r) (front ns k o h e) ∙ ap (λ x. waits_in (forest (x ∷ drop (k + 1) ns)) r) f

    more : (r : ℕ) → r < resource_limit → (has after r || waits_in (forest (drop (k + 1) ns)) r) ≡ whole r
    more r lt =
        ap (λ w. has w r || waits_in (forest (drop (k + 1) ns)) r) is
        ∙ ap (λ b. b || waits_in (forest (drop (k + 1) ns)) r) (has-union before (waits_from n) r lt)
        ∙ or_assoc (has before r) (waits_from n r) (waits_in (forest (drop (k + 1) ns)) r)
        ∙ ap (λ b. has before r || b) (sym (here r)) ∙ m.1 r lt

-- a place with no node
pub waits-vacant : (whole : ℕ → Bool) (ns : List (Option Node)) (k : ℕ) (o : Option Node) (before after : Awaits) → k < length ns → o ≡ get_or ns k o → o ≡ None
    → after ≡ before → MakesWhole whole ns k before → MakesWhole whole ns (k + 1) after
waits-vacant whole ns k o before after h e f j m = (
  j ∙ m.0 ∙ ap (λ w. awaits_where (has w)) (sym j),
  λ r lt. ap (λ w. has w r || waits_in (forest (drop (k + 1) ns)) r) j
      ∙ ap (λ b. has before r || b) (sym (ap (λ xs. waits_in (forest xs) r) (front ns k o h e) ∙ ap (λ x. waits_in (forest (x ∷ drop (k + 1) ns)) r) f)) ∙ m.1 r lt,
)

-- at the end the set is whole
pub waits-end : (ns : List (Option Node)) (k : ℕ) (waits : Awaits) → length ns ≤ k → MakesWhole (waits_in (forest ns)) ns k waits → waits ≡ awaits_where (waits_in (forest ns))
waits-end ns k waits h m =
    m.0 ∙ awaits_agree _ _ (λ r lt. or_false (has waits r) ∙ ap (λ xs. has waits r || waits_in (forest xs) r) (sym (drop-end ns k h)) ∙ m.1 r lt)

-- at the start nothing is there
pub waits-start : (ns : List (Option Node)) (waits : Awaits) → waits ≡ nothing → MakesWhole (waits_in (forest ns)) ns 0 waits
waits-start ns waits e = (e ∙ none-where ∙ awaits_where-has _ ∙ ap (λ w. awaits_where (has w)) (sym (e ∙ none-where)), λ r lt. ap (λ w. has w r || waits_in (forest ns) r) e)

-- what a set is used for
pub resolved_since-set : (tree : Option Node) (waits : Awaits) → waits ≡ all_awaited tree → (version : ℕ → ℕ) (cut : Cut) (j : Journal) → AreWithinReach j
    → resolved_since cut j (in_versions version waits) ≡ list_any (λ w. resolved_since cut j (in_versions version w)) (visible_awaits tree)
resolved_since-set tree waits e version cut j reach =
    ap (λ w. resolved_since cut j (in_versions version w)) e ∙ resolved_since-all_awaited version cut j reach tree
