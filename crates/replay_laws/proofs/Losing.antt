-- What is gone of an old tree: each number that goes on was that of an old host, and is lost nowhere.
use Rattle.std.specs.Prelude.{◌≡◌, ℕ, suc, zero, ◌+◌, ◌<◌, ◌≤◌, Bool, true, false, cond, ◌||◌, List, [], ◌∷◌, Option, Some, None, map, nat_eq, option_and_then, slice_get, refl}
use Rattle.std.specs.Option.{option_flatten}
use Rattle.std.proofs.Common.{arith, sym, ap, subst, ◌∙◌}
use Rattle.std.proofs.lemmas.Bool.Decides.{nat_tests, Decides-eqb}
use Rattle.rx_elem.specs.Elements.{Element}
use Rattle.rx_elem.specs.Identity.{old_places, is_reused}
use Rattle.rx_elem.specs.Trees.{Mark, of_instance, of_host, of_boundary, of_catcher, plain, Node, node, Forest, none, vacant, child, places, mark_of, host_number, is_host, elements_in, children_if, fallback_if}
use Rattle.rx_elem.specs.Compare.{old_nodes, node_at}
use Rattle.host_laws.specs.Related.{AreApart}
use Rattle.host_laws.proofs.IdentityLaws.{places_distinct}
use Rattle.replay_laws.proofs.Counts.{is_number, one_if, times, times_in, times_if}
use Rattle.replay_laws.proofs.Growing.{first, rest, MarkGrows, Grows, Grows_in}

-- how many hosts of this number the old children have that are no new ones, from a place on
abbrev pub gone_times : ℕ → List (Option ℕ) → ℕ → Forest → ℕ
gone_times n ps p none = 0
gone_times n ps p (vacant os) = gone_times n ps (p + 1) os
gone_times n ps p (child o os) = cond (is_reused ps p) 0 (times n o) + gone_times n ps (p + 1) os

-- how many hosts of this number are gone with old children
abbrev mutual
  pub lost : ℕ → Option Node → Node → ℕ
  lost n o (node e m ns fs) =
      (gone_times n (old_places (elements_in (children_if o)) (elements_in ns)) 0 (children_if o) + lost_in n (old_nodes (children_if o) (elements_in ns)) ns)
      + (gone_times n (old_places (elements_in (fallback_if o)) (elements_in fs)) 0 (fallback_if o) + lost_in n (old_nodes (fallback_if o) (elements_in fs)) fs)

  pub lost_in : ℕ → List (Option Node) → Forest → ℕ
  lost_in n os none = 0
  lost_in n os (vacant ns) = lost_in n (rest os) ns
  lost_in n os (child x ns) = lost n (first os) x + lost_in n (rest os) ns

-- how many hosts of this number the old nodes have
abbrev sum_of : ℕ → List (Option Node) → ℕ
sum_of n [] = 0
sum_of n (o ∷ os) = times_if n o + sum_of n os

sum_parts : (n : ℕ) (os : List (Option Node)) → times_if n (first os) + sum_of n (rest os) ≡ sum_of n os
sum_parts n [] = refl
sum_parts n (o ∷ os) = refl

-- how many hosts of this number the old children have that are new ones, from a place on
abbrev reused_times : ℕ → List (Option ℕ) → ℕ → Forest → ℕ
reused_times n ps p none = 0
reused_times n ps p (vacant os) = reused_times n ps (p + 1) os
reused_times n ps p (child o os) = cond (is_reused ps p) (times n o) 0 + reused_times n ps (p + 1) os

both_ways : (n : ℕ) (ps : List (Option ℕ)) (p : ℕ) (os : Forest) → reused_times n ps p os + gone_times n ps p os ≡ times_in n os
both_ways n ps p none = refl
both_ways n ps p (vacant os) = both_ways n ps (p + 1) os
both_ways n ps p (child o os) = go (is_reused ps p) (both_ways n ps (p + 1) os)
  where
    go : (b : Bool) → reused_times n ps (p + 1) os + gone_times n ps (p + 1) os ≡ times_in n os
        → (cond b (times n o) 0 + reused_times n ps (p + 1) os) + (cond b 0 (times n o) + gone_times n ps (p + 1) os) ≡ times n o + times_in n os
    go true h = omega arith
    go false h = omega arith

-- a place before those that are looked at changes nothing
earlier_place : (n q : ℕ) (ps : List (Option ℕ)) (p : ℕ) → q < p → (os : Forest) → reused_times n (Some q ∷ ps) p os ≡ reused_times n ps p os
earlier_place n q ps p lt none = refl
earlier_place n q ps p lt (vacant os) = earlier_place n q ps (p + 1) (omega arith) os
earlier_place n q ps p lt (child o os) =
    let other : nat_eq p q ≡ false = grind (arith, nat_tests) in
    rw other (ap (λ x. cond (is_reused ps p) (times n o) 0 + x) (earlier_place n q ps (p + 1) (omega arith) os))

-- one more place that is a new child's
one_place : (n : ℕ) (ps : List (Option ℕ)) (i p : ℕ) (os : Forest) → is_reused ps (p + i) ≡ false
    → times_if n (option_flatten (slice_get (places os) i)) + reused_times n ps p os ≤ reused_times n (Some (p + i) ∷ ps) p os
one_place n ps i p none h = omega arith
one_place n ps zero p (vacant os) h = omega (arith, earlier_place n (p + 0) ps (p + 1) (omega arith) os)
one_place n ps (suc i) p (vacant os) h =
    let same : (p + 1) + i ≡ p + suc i = omega arith in
    let k : is_reused ps ((p + 1) + i) ≡ false = ap (is_reused ps) same ∙ h in
    subst (λ x. times_if n (option_flatten (slice_get (places os) i)) + reused_times n ps (p + 1) os ≤ reused_times n (Some x ∷ ps) (p + 1) os) same
    (one_place n ps i (p + 1) os k)
one_place n ps zero p (child o os) h =
    let here : nat_eq p (p + 0) ≡ true = grind (arith, nat_tests) in
    let plain' : p + 0 ≡ p = omega arith in
    let free : is_reused ps p ≡ false = ap (is_reused ps) (sym plain') ∙ h in
    rw (here, free) (omega (arith, earlier_place n (p + 0) ps (p + 1) (omega arith) os))
one_place n ps (suc i) p (child o os) h =
    let same : (p + 1) + i ≡ p + suc i = omega arith in
    let k : is_reused ps ((p + 1) + i) ≡ false = ap (is_reused ps) same ∙ h in
    let other : nat_eq p (p + suc i) ≡ false = grind (arith, nat_tests) in
    let later : times_if n (option_flatten (slice_get (places os) i)) + reused_times n ps (p + 1) os ≤ reused_times n (Some (p + suc i) ∷ ps) (p + 1) os =
    subst (λ x. times_if n (option_flatten (slice_get (places os) i)) + reused_times n ps (p + 1) os ≤ reused_times n (Some x ∷ ps) (p + 1) os) same
    (one_place n ps i (p + 1) os k) in
    rw other (omega arith)

apart_rest : (x : Option ℕ) (ps : List (Option ℕ)) → AreApart (x ∷ ps) → AreApart ps
apart_rest x ps a i j p h k = let same : suc i ≡ suc j = a (suc i) (suc j) p h k in omega arith

not_again : (q : ℕ) (ps : List (Option ℕ)) → ((i : ℕ) → slice_get ps i ≡ Some (Some q) → ⊥) → is_reused ps q ≡ false
not_again q [] h = refl
not_again q (None ∷ ps) h = not_again q ps (λ i. h (suc i))
not_again q (Some r ∷ ps) h = go (not_again q ps (λ i. h (suc i))) (nat_eq q r) refl
  where
    go : is_reused ps q ≡ false → (b : Bool) → nat_eq q r ≡ b → (b || is_reused ps q) ≡ false
    go k true e = let same : r ≡ q = sym ((Decides-eqb q r).0 e) in absurd (h 0 (ap (λ x. Some (Some x)) same))
    go k false e = k

first_once : (q : ℕ) (ps : List (Option ℕ)) → AreApart (Some q ∷ ps) → is_reused ps q ≡ false
first_once q ps a = not_again q ps (λ i h. let same : 0 ≡ suc i = a 0 (suc i) q refl h in absurd (omega arith))

new_place : (n : ℕ) (ps : List (Option ℕ)) (p : ℕ) (os : Forest) → reused_times n (None ∷ ps) p os ≡ reused_times n ps p os
new_place n ps p none = refl
new_place n ps p (vacant os) = new_place n ps (p + 1) os
new_place n ps p (child o os) = ap (λ x. cond (is_reused ps p) (times n o) 0 + x) (new_place n ps (p + 1) os)

-- the old nodes of places that stand apart have no more than the reused children
sum_reused : (n : ℕ) (os : Forest) (ps : List (Option ℕ)) → AreApart ps → sum_of n (map (option_and_then (node_at os)) ps) ≤ reused_times n ps 0 os
sum_reused n os [] a = omega arith
sum_reused n os (None ∷ ps) a = omega (arith, sum_reused n os ps (apart_rest None ps a), new_place n ps 0 os)
sum_reused n os (Some q ∷ ps) a =
    let same : 0 + q ≡ q = omega arith in
    let one : times_if n (option_flatten (slice_get (places os) q)) + reused_times n ps 0 os ≤ reused_times n (Some q ∷ ps) 0 os =
    subst (λ x. times_if n (option_flatten (slice_get (places os) q)) + reused_times n ps 0 os ≤ reused_times n (Some x ∷ ps) 0 os) same
    (one_place n ps q 0 os (ap (is_reused ps) same ∙ first_once q ps a)) in
    omega (arith, sum_reused n os ps (apart_rest (Some q) ps a), one)

-- the number of an old host
abbrev old_number : Option Node → Option ℕ
old_number None = None
old_number (Some o) = host_number (mark_of o)

mark_times : (n next : ℕ) → n < next → (e : Element) (m : Mark) (o : Option Node) (b : Bool) → is_host m ≡ b → MarkGrows next e (host_number m) o b
    → one_if (is_number n (host_number m)) ≤ one_if (is_number n (old_number o))
mark_times n next lt e (of_instance i) o b k g = omega arith
mark_times n next lt e (of_boundary s) o b k g = omega arith
mark_times n next lt e (of_catcher z) o b k g = omega arith
mark_times n next lt e plain o b k g = omega arith
mark_times n next lt e (of_host h) o false k g = absurd (cc)
mark_times n next lt e (of_host None) None true k g = omega arith
mark_times n next lt e (of_host (Some h)) None true k g =
    let late : next ≤ h = g h refl in
    let other : nat_eq n h ≡ false = grind (arith, nat_tests) in
    rw other (omega arith)
mark_times n next lt e (of_host h) (Some o) true k g = rw (g.3, g.4) (omega arith)

old_parts : (n : ℕ) (o : Option Node) → one_if (is_number n (old_number o)) + (times_in n (children_if o) + times_in n (fallback_if o)) ≡ times_if n o
old_parts n None = refl
old_parts n (Some (node e m os gs)) = refl

mutual
  -- a number of an old host goes on or is lost, once
  pub grown_counts : (n next : ℕ) → n < next → (o : Option Node) (x : Node) → Grows next o x → times n x + lost n o x ≤ times_if n o
  grown_counts n next lt o (node e m ns fs) g =
      omega (
        arith,
        mark_times n next lt e m o (is_host m) refl g.0,
        old_parts n o,
        sum_reused n (children_if o) (old_places (elements_in (children_if o)) (elements_in ns)) (places_distinct (elements_in (children_if o)) (elements_in ns)),
        both_ways n (old_places (elements_in (children_if o)) (elements_in ns)) 0 (children_if o),
        all_counts n next lt (old_nodes (children_if o) (elements_in ns)) ns g.1,
        sum_reused n (fallback_if o) (old_places (elements_in (fallback_if o)) (elements_in fs)) (places_distinct (elements_in (fallback_if o)) (elements_in fs)),
        both_ways n (old_places (elements_in (fallback_if o)) (elements_in fs)) 0 (fallback_if o),
        all_counts n next lt (old_nodes (fallback_if o) (elements_in fs)) fs g.2,
      )

  all_counts : (n next : ℕ) → n < next → (os : List (Option Node)) (ns : Forest) → Grows_in next os ns → times_in n ns + lost_in n os ns ≤ sum_of n os
  all_counts n next lt os none g = omega arith
  all_counts n next lt os (vacant ns) g = omega (arith, all_counts n next lt (rest os) ns g, sum_parts n os)
  all_counts n next lt os (child x ns) g =
      omega (arith, grown_counts n next lt (first os) x g.0, all_counts n next lt (rest os) ns g.1, sum_parts n os)

-- an old child that is no new one is lost with all its hosts
pub gone_there : (n : ℕ) (ps : List (Option ℕ)) (i q p : ℕ) (os : Forest) → q ≡ p + i → is_reused ps q ≡ false
    → times_if n (option_flatten (slice_get (places os) i)) ≤ gone_times n ps p os
gone_there n ps i q p none e h = omega arith
gone_there n ps zero q p (vacant os) e h = omega arith
gone_there n ps (suc i) q p (vacant os) e h = gone_there n ps i q (p + 1) os (omega arith) h
gone_there n ps zero q p (child o os) e h =
    let same : q ≡ p = omega arith in
    let free : is_reused ps p ≡ false = ap (is_reused ps) (sym same) ∙ h in
    rw free (omega arith)
gone_there n ps (suc i) q p (child o os) e h =
    let later = gone_there n ps i q (p + 1) os (omega arith) h in
    omega arith

mutual
  -- what is lost was there
  pub lost_within : (n : ℕ) (o : Option Node) (x : Node) → lost n o x ≤ times_if n o
  lost_within n o (node e m ns fs) =
      omega (
        arith,
        old_parts n o,
        sum_reused n (children_if o) (old_places (elements_in (children_if o)) (elements_in ns)) (places_distinct (elements_in (children_if o)) (elements_in ns)),
        both_ways n (old_places (elements_in (children_if o)) (elements_in ns)) 0 (children_if o),
        all_lost_within n (old_nodes (children_if o) (elements_in ns)) ns,
        sum_reused n (fallback_if o) (old_places (elements_in (fallback_if o)) (elements_in fs)) (places_distinct (elements_in (fallback_if o)) (elements_in fs)),
        both_ways n (old_places (elements_in (fallback_if o)) (elements_in fs)) 0 (fallback_if o),
        all_lost_within n (old_nodes (fallback_if o) (elements_in fs)) fs,
      )

  all_lost_within : (n : ℕ) (os : List (Option Node)) (ns : Forest) → lost_in n os ns ≤ sum_of n os
  all_lost_within n os none = omega arith
  all_lost_within n os (vacant ns) = omega (arith, all_lost_within n (rest os) ns, sum_parts n os)
  all_lost_within n os (child x ns) = omega (arith, lost_within n (first os) x, all_lost_within n (rest os) ns, sum_parts n os)
