-- The ways that a walk gives cover a tree, if no stirred number stands in what the walk spared.
use Rattle.std.proofs.Common.{◌≡◌, ℕ, ◌+◌, ◌≤◌, Bool, true, false, cond, Option, Some, None, refl, sym, ap, subst, ◌∙◌, inl, inr, arith}
use Rattle.std.specs.Prelude.{◌||◌, ◌&&◌, not, is_some}
use Rattle.std.specs.Option.{option_map_or}
use Rattle.std.proofs.lemmas.Bool.{and_from, and_parts, both_ways, eq-eqb, false_from_ne_true, not-true, not_from_false, or_cases, or_left, or_parts, or_right}
use Rattle.rx_elem.specs.Trees.{Forest, Mark, Node, child, children_of, fallback_of, instance_in, mark_of, node, none, of_boundary, of_catcher, of_host, of_instance, plain, vacant}
use Rattle.commit_laws.specs.Each.{ForEach, ForEachIn}
use Rattle.commit_laws.specs.HiddenWaits.{AllNumbered, IfNumbered, Numbered}
use Rattle.rx_meaning.specs.Settled.{HasOwnNumbers, is_numbered_so, number_of, times_numbered, times_numbered_if, times_numbered_in}
use Rattle.rx_node.specs.Hides.{hides_within}
use Rattle.rx_node.specs.Mounts.{mounts_in, mounts_within}
use Rattle.rx_ways.specs.Leads.{is_cause}
use Rattle.rx_ways.specs.Walk.{finds, finds_in, is_spared, puts, puts_in}
use Rattle.rx_ways.specs.Ways.{Covers, CoversIf, CoversIn, IsQuiet}
use Rattle.rx_ways.proofs.Quiet.{NoneOccurs, covered, quiet-mark, quiet-without}

-- how often a number stands in what a walk spares
abbrev mutual
  pub missed : (hint : ℕ → Bool) → ℕ → Node → ℕ
  missed h n (node e m ns fs) = cond (is_spared h (node e m ns fs)) (times_numbered n (node e m ns fs)) (missed_in h n ns + missed_in h n fs)

  pub missed_in : (hint : ℕ → Bool) → ℕ → Forest → ℕ
  missed_in h n none = 0
  missed_in h n (vacant ns) = missed_in h n ns
  missed_in h n (child x ns) = missed h n x + missed_in h n ns

mutual
  missed-le : (h : ℕ → Bool) (n : ℕ) (x : Node) → missed h n x ≤ times_numbered n x
  missed-le h n (node e m ns fs) =
      let inside = missed_in-le h n ns in
      let beside = missed_in-le h n fs in
      elim (is_spared h (node e m ns fs)) as (λ b. cond b (times_numbered n (node e m ns fs)) (missed_in h n ns + missed_in h n fs) ≤ times_numbered n (node e m ns fs)) [
        | true ↦ omega arith
        | false ↦ omega (arith, inside, beside)
      ]

  missed_in-le : (h : ℕ → Bool) (n : ℕ) (ns : Forest) → missed_in h n ns ≤ times_numbered_in n ns
  missed_in-le h n none = omega arith
  missed_in-le h n (vacant ns) = missed_in-le h n ns
  missed_in-le h n (child x ns) = omega (arith, missed-le h n x, missed_in-le h n ns)

open-missed : (h : ℕ → Bool) (n : ℕ) (x : Node) → is_spared h x ≡ false → missed h n x ≡ missed_in h n (children_of x) + missed_in h n (fallback_of x)
open-missed h n (node e m ns fs) is = ap (λ b. cond b (times_numbered n (node e m ns fs)) (missed_in h n ns + missed_in h n fs)) is

spared-missed : (h : ℕ → Bool) (n : ℕ) (x : Node) → is_spared h x ≡ true → missed h n x ≡ times_numbered n x
spared-missed h n (node e m ns fs) is = ap (λ b. cond b (times_numbered n (node e m ns fs)) (missed_in h n ns + missed_in h n fs)) is

mutual
  -- a number that is put on the ways stands in what the walk went into
  put-apart : (h s : ℕ → Bool) (n : ℕ) (x : Node) → puts h s n x ≡ true → missed h n x + 1 ≤ times_numbered n x
  put-apart h s n (node e m ns fs) is =
      let parts = and_parts (not (is_spared h (node e m ns fs))) _ is in
      let gone = open-missed h n (node e m ns fs) (not-true _ parts.0) in
      let inside = missed_in-le h n ns in
      let beside = missed_in-le h n fs in
      elim (or_cases _ (puts_in h s n ns || puts_in h s n fs) parts.1) [
        | inl own ↦ omega (arith, gone, inside, beside, ap {B = ℕ} (λ b. cond b 1 0) (and_parts _ (finds h s (node e m ns fs)) own).0)
        | inr below ↦ elim (or_cases (puts_in h s n ns) (puts_in h s n fs) below) [
          | inl p ↦ omega (arith, gone, beside, put-apart_in h s n ns p)
          | inr p ↦ omega (arith, gone, inside, put-apart_in h s n fs p)
        ]
      ]

  put-apart_in : (h s : ℕ → Bool) (n : ℕ) (ns : Forest) → puts_in h s n ns ≡ true → missed_in h n ns + 1 ≤ times_numbered_in n ns
  put-apart_in h s n none is = cc
  put-apart_in h s n (vacant ns) is = put-apart_in h s n ns is
  put-apart_in h s n (child x ns) is =
      elim (or_cases (puts h s n x) (puts_in h s n ns) is) [
        | inl p ↦ omega (arith, put-apart h s n x p, missed_in-le h n ns)
        | inr p ↦ omega (arith, missed-le h n x, put-apart_in h s n ns p)
      ]

by_cases : {P : Type 0} (b : Bool) → (b ≡ true → P) → (b ≡ false → P) → P
by_cases true f g = f refl
by_cases false f g = g refl

shows-all : (h : ℕ → Bool) (x : Node) → is_spared h x ≡ true → hides_within x ≡ false
shows-all h x is = not-true _ (and_parts (not (hides_within x)) _ is).0

-- what is spared is quiet, if no stirred number stands in it
spared-quiet : (h s : ℕ → Bool) (x : Node) → Numbered x → is_spared h x ≡ true → NoneOccurs s (λ n. missed h n x) → ForEach (IsQuiet s) x
spared-quiet h s x has is free = quiet-without s x has (shows-all h x is) (λ n st. sym (spared-missed h n x is) ∙ free n st)

mutual
  -- if a walk finds no cause, all is quiet
  unfound-quiet : (h s : ℕ → Bool) (x : Node) → Numbered x → finds h s x ≡ false → NoneOccurs s (λ n. missed h n x) → ForEach (IsQuiet s) x
  unfound-quiet h s (node e m ns fs) has still free =
      by_cases (is_spared h (node e m ns fs)) (λ is. spared-quiet h s (node e m ns fs) has is free)
      (λ is.
      let found = or_parts (is_cause s m) (finds_in h s ns || finds_in h s fs) (sym (ap (λ b. not b && (is_cause s m || (finds_in h s ns || finds_in h s fs))) is) ∙ still) in
      let below = or_parts (finds_in h s ns) (finds_in h s fs) found.1 in (
        quiet-mark s m has.0 found.0,
        unfound-quiet_in h s ns has.1 below.0 (λ n st. omega (arith, open-missed h n (node e m ns fs) is, free n st)),
        unfound-quiet_in h s fs has.2 below.1 (λ n st. omega (arith, open-missed h n (node e m ns fs) is, free n st)),
      ))

  unfound-quiet_in : (h s : ℕ → Bool) (ns : Forest) → AllNumbered ns → finds_in h s ns ≡ false → NoneOccurs s (λ n. missed_in h n ns) → ForEachIn (IsQuiet s) ns
  unfound-quiet_in h s none has still free = tt
  unfound-quiet_in h s (vacant ns) has still free = unfound-quiet_in h s ns has still free
  unfound-quiet_in h s (child x ns) has still free =
      let parts = or_parts (finds h s x) (finds_in h s ns) still in
      (unfound-quiet h s x has.0 parts.0 (λ n st. omega (arith, free n st)), unfound-quiet_in h s ns has.1 parts.1 (λ n st. omega (arith, free n st)))

open-puts : (h s : ℕ → Bool) (n : ℕ) (x : Node) → is_spared h x ≡ false
    → (is_numbered_so n (number_of (mark_of x)) && finds h s x) || (puts_in h s n (children_of x) || puts_in h s n (fallback_of x)) ≡ true → puts h s n x ≡ true
open-puts h s n (node e m ns fs) is p = and_from (not (is_spared h (node e m ns fs))) _ (not_from_false _ is) p

-- an instance at which a cause is found is on the ways
put-own : (h s : ℕ → Bool) (n : ℕ) (x : Node) → is_spared h x ≡ false → number_of (mark_of x) ≡ Some n → finds h s x ≡ true → puts h s n x ≡ true
put-own h s n x is has found =
    open-puts h s n x is
    (or_left _ (puts_in h s n (children_of x) || puts_in h s n (fallback_of x))
    (and_from (is_numbered_so n (number_of (mark_of x))) (finds h s x) (ap (is_numbered_so n) has ∙ eq-eqb n n refl) found))

mutual
  walk-covers : (h s way : ℕ → Bool) (x : Node) → Numbered x → NoneOccurs s (λ n. missed h n x) → ((n : ℕ) → puts h s n x ≡ true → way n ≡ true) → Covers way (IsQuiet s) x
  walk-covers h s way (node e m ns fs) has free put =
      by_cases (is_spared h (node e m ns fs)) (λ is. covered way (IsQuiet s) (node e m ns fs) (spared-quiet h s (node e m ns fs) has is free))
      (λ is. (
        λ n numbered off.
            unfound-quiet h s (node e m ns fs) has
            (false_from_ne_true (finds h s (node e m ns fs)) (λ found. both_ways (way n) off (put n (put-own h s n (node e m ns fs) is numbered found)))) free,
        walk-covers_in h s way ns has.1 (λ n st. omega (arith, open-missed h n (node e m ns fs) is, free n st))
            (λ n p. put n (open-puts h s n (node e m ns fs) is (or_right _ _ (or_left (puts_in h s n ns) (puts_in h s n fs) p)))),
        walk-covers_in h s way fs has.2 (λ n st. omega (arith, open-missed h n (node e m ns fs) is, free n st))
            (λ n p. put n (open-puts h s n (node e m ns fs) is (or_right _ _ (or_right (puts_in h s n ns) (puts_in h s n fs) p)))),
      ))

  walk-covers_in : (h s way : ℕ → Bool) (ns : Forest) → AllNumbered ns → NoneOccurs s (λ n. missed_in h n ns) → ((n : ℕ) → puts_in h s n ns ≡ true → way n ≡ true)
      → CoversIn way (IsQuiet s) ns
  walk-covers_in h s way none has free put = tt
  walk-covers_in h s way (vacant ns) has free put = walk-covers_in h s way ns has free put
  walk-covers_in h s way (child x ns) has free put = (
    walk-covers h s way x has.0 (λ n st. omega (arith, free n st)) (λ n p. put n (or_left (puts h s n x) (puts_in h s n ns) p)),
    walk-covers_in h s way ns has.1 (λ n st. omega (arith, free n st)) (λ n p. put n (or_right (puts h s n x) (puts_in h s n ns) p)),
  )

no-number : (n : ℕ) (m : Mark) → is_some (instance_in m) ≡ false → is_numbered_so n (number_of m) ≡ false
no-number n (of_instance i) e = absurd (cc e)
no-number n (of_host k) e = refl
no-number n (of_boundary b) e = refl
no-number n (of_catcher c) e = refl
no-number n plain e = refl

mutual
  -- no number stands if there is no instance
  none-times : (n : ℕ) (x : Node) → mounts_within x ≡ false → times_numbered n x ≡ 0
  none-times n (node e m ns fs) is =
      let own = or_parts (is_some (instance_in m)) (mounts_in ns || mounts_in fs) is in
      let below = or_parts (mounts_in ns) (mounts_in fs) own.1 in
      omega (arith, ap {B = ℕ} (λ b. cond b 1 0) (no-number n m own.0), none-times_in n ns below.0, none-times_in n fs below.1)

  none-times_in : (n : ℕ) (ns : Forest) → mounts_in ns ≡ false → times_numbered_in n ns ≡ 0
  none-times_in n none is = refl
  none-times_in n (vacant ns) is = none-times_in n ns is
  none-times_in n (child x ns) is =
      let parts = or_parts (mounts_within x) (mounts_in ns) is in
      omega (arith, none-times n x parts.0, none-times_in n ns parts.1)

-- if all are hinted, only what has no instance is spared
hinted-spares : (h : ℕ → Bool) → ((n : ℕ) → h n ≡ true) → (x : Node) → is_spared h x ≡ true → mounts_within x ≡ false
hinted-spares h all x is = go (number_of (mark_of x)) (and_parts (not (hides_within x)) _ is).1
  where
    go : (o : Option ℕ) → not (mounts_within x) || option_map_or (λ n. not (h n)) o false ≡ true → mounts_within x ≡ false
    go None e = elim (or_cases (not (mounts_within x)) false e) [ inl p ↦ not-true _ p | inr q ↦ absurd (cc q) ]
    go (Some n) e = elim (or_cases (not (mounts_within x)) (not (h n)) e) [ inl p ↦ not-true _ p | inr q ↦ absurd (let f = all n in let g = not-true _ q in cc) ]

mutual
  none-missed : (h : ℕ → Bool) → ((n : ℕ) → h n ≡ true) → (n : ℕ) (x : Node) → missed h n x ≡ 0
  none-missed h all n (node e m ns fs) =
      by_cases (is_spared h (node e m ns fs))
      (λ is. spared-missed h n (node e m ns fs) is ∙ none-times n (node e m ns fs) (hinted-spares h all (node e m ns fs) is))
      (λ is. omega (arith, open-missed h n (node e m ns fs) is, none-missed_in h all n ns, none-missed_in h all n fs))

  none-missed_in : (h : ℕ → Bool) → ((n : ℕ) → h n ≡ true) → (n : ℕ) (ns : Forest) → missed_in h n ns ≡ 0
  none-missed_in h all n none = refl
  none-missed_in h all n (vacant ns) = none-missed_in h all n ns
  none-missed_in h all n (child x ns) = omega (arith, none-missed h all n x, none-missed_in h all n ns)

-- the ways that a walk along hints gives cover a tree, if each stirred number is on them
pub covers-along : (h s way : ℕ → Bool) (next : ℕ) (tree : Option Node) (root : Node) → tree ≡ Some root → IfNumbered tree → HasOwnNumbers next tree
    → ((n : ℕ) → way n ≡ puts h s n root) → ((n : ℕ) → s n ≡ true → way n ≡ true) → CoversIf way (IsQuiet s) tree
covers-along h s way next tree root is has own ways all =
    subst (CoversIf way (IsQuiet s)) (sym is)
    (walk-covers h s way root (subst IfNumbered is has)
    (λ n st.
    let once : times_numbered n root ≤ 1 = subst (λ (x : Option Node). times_numbered_if n x ≤ 1) is (own n).0 in
    omega (arith, once, put-apart h s n root (sym (ways n) ∙ all n st)))
    (λ n put. ways n ∙ put))

-- and those that a walk over the whole tree gives
pub covers-whole : (h s way : ℕ → Bool) (tree : Option Node) (root : Node) → tree ≡ Some root → IfNumbered tree → ((n : ℕ) → h n ≡ true)
    → ((n : ℕ) → way n ≡ puts h s n root) → CoversIf way (IsQuiet s) tree
covers-whole h s way tree root is has all ways =
    subst (CoversIf way (IsQuiet s)) (sym is) (walk-covers h s way root (subst IfNumbered is has) (λ n st. none-missed h all n root) (λ n put. ways n ∙ put))
