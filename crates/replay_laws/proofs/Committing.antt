-- Each tree that is rendered against what commits left is related to it as a commit relates them.
use Rattle.std.specs.Prelude.{◌≡◌, ℕ, ◌<◌, ◌≤◌, ◌⊎◌, Bool, true, false, ◌&&◌, Option, Some, None, IfSome, nat_eq, refl}
use Rattle.std.specs.List.{AllByRecursion}
use Rattle.std.proofs.Common.{ap, arith, sym, subst, inl, inr, ◌∙◌}
use Rattle.std.proofs.lemmas.Bool.Decides.{nat_tests}
use Rattle.std.proofs.lemmas.Bool.{cases_lt}
use Rattle.rx_ast.specs.Syntax.{Program}
use Rattle.rx_rules.specs.Bounds.{depth_bound}
use Rattle.rx_elem.proofs.Equality.{same_kind-self}
use Rattle.rx_elem.specs.Elements.{Element, kind_of, same_kind}
use Rattle.rx_elem.specs.Elements as elements
use Rattle.rx_elem.specs.Trees.{Mark, of_instance, of_host, of_boundary, of_catcher, plain, Node, node, Forest, none, vacant, child, element_of, host_number, is_caught, is_host}
use Rattle.rx_elem.specs.Spots.{Around, at_root}
use Rattle.rx_elem.specs.Numbers.{Numbers, numbered, numbered_in, numbered_mark, numbered_instance, numbered_host}
use Rattle.rx_meaning.specs.Fresh.{Sight, fresh, made, root_element, depth_limit}
use Rattle.rx_forest.specs.Hosts.{Content, content_of, hosts, has_host, host_numbered}
use Rattle.host_laws.specs.Related.{has_gone, GoneBelow}
use Rattle.host_laws.specs.Commits.{HasNone, HasNumber, AreNumbered, AreNumbered_in, IsSound, IfSound, is_taken, from_root, IsCommit}
use Rattle.host_laws.proofs.Listing.{hosts_at}
use Rattle.host_laws.proofs.Removals.{missing}
use Rattle.rx_model.specs.Laws.{IsBounded}
use Rattle.replay_laws.specs.Attributes.{AttributesApart}
use Rattle.replay_laws.specs.Committed.{IsCommitted, none_yet, one_more, RendersCommit}
use Rattle.replay_laws.proofs.Counts.{is_number, one_if, times, times_in, times_if, mark_rises, number_rises, numbers_rise, numbered_counts, no_more_than_one, not_below}
use Rattle.replay_laws.proofs.Growing.{Grows, numbered_grows}
use Rattle.replay_laws.proofs.Losing.{lost, grown_counts, lost_within}
use Rattle.host_laws.proofs.Owned.{IsOwn, each_own}
use Rattle.replay_laws.proofs.Listed.{occurs_times, none_there, some_there, distinct_once}
use Rattle.replay_laws.proofs.OldLists.{IfOld}
use Rattle.replay_laws.proofs.Relating.{rendered_from}
use Rattle.replay_laws.proofs.Below.{below_at}
use Rattle.replay_laws.proofs.KeptKinds.{kinds_at}
use Rattle.replay_laws.proofs.Fine.{fine_leaves, is_hostlike, IsFine, AllFine, LacksFallback, NumberBelow, IsBelow, AllBelow}
use Rattle.replay_laws.proofs.Rendering.{IsOld, IfSameKind, PlaceGrows, fresh_grows}

-- Numbers below the next one

own_below : (n next : ℕ) → next ≤ n → (o : Option ℕ) → NumberBelow next o → one_if (is_number n o) ≤ 0
own_below n next h None low = omega arith
own_below n next h (Some k) low = let other : nat_eq n k ≡ false = grind (arith, nat_tests) in rw other (omega arith)

mutual
  none_above : (n next : ℕ) → next ≤ n → (x : Node) → IsBelow next x → times n x ≤ 0
  none_above n next h (node e m ns fs) low =
      omega (arith, own_below n next h (host_number m) low.0, all_none_above n next h ns low.1, all_none_above n next h fs low.2)

  all_none_above : (n next : ℕ) → next ≤ n → (ns : Forest) → AllBelow next ns → times_in n ns ≤ 0
  all_none_above n next h none low = omega arith
  all_none_above n next h (vacant ns) low = all_none_above n next h ns low
  all_none_above n next h (child x ns) low = omega (arith, none_above n next h x low.0, all_none_above n next h ns low.1)

-- What numbering keeps

host_stays : (c : Numbers) (m : Mark) → is_host (numbered_mark c m).1 ≡ is_host m
host_stays c (of_instance i) = go i.number
  where
    go : (n : Option ℕ) → is_host (numbered_instance c i n).1 ≡ false
    go None = refl
    go (Some n) = refl
host_stays c (of_host h) = go h
  where
    go : (n : Option ℕ) → is_host (numbered_host c n).1 ≡ true
    go None = refl
    go (Some n) = refl
host_stays c (of_boundary b) = refl
host_stays c (of_catcher z) = refl
host_stays c plain = refl

content_there : (e : Element) → is_hostlike e ≡ true → (c : Content) × (content_of e ≡ Some c)
content_there elements.null h = absurd (cc)
content_there (elements.text t) h = (_, refl)
content_there (elements.host n k attrs es) h = (_, refl)
content_there (elements.comp c k ps es) h = absurd (cc)
content_there (elements.list marked es) h = absurd (cc)
content_there (elements.boundary k f es) h = absurd (cc)
content_there (elements.catcher k f es) h = absurd (cc)
content_there (elements.provider c k x es) h = absurd (cc)

mark_numbered : (c : Numbers) (e : Element) (m : Mark) → is_host m ≡ is_hostlike e → HasNumber e (numbered_mark c m).1
mark_numbered c e (of_instance i) h = go i.number
  where
    go : (n : Option ℕ) → HasNumber e (numbered_instance c i n).1
    go None = tt
    go (Some n) = tt
mark_numbered c e (of_host k) h = go k
  where
    go : (n : Option ℕ) → HasNumber e (numbered_host c n).1
    go None = content_there e (sym h)
    go (Some n) = content_there e (sym h)
mark_numbered c e (of_boundary b) h = tt
mark_numbered c e (of_catcher z) h = tt
mark_numbered c e plain h = tt

mark_below : (c : Numbers) (next : ℕ) (m : Mark) → next ≤ c.host → NumberBelow next (host_number m) → NumberBelow (numbered_mark c m).0.host (host_number (numbered_mark c m).1)
mark_below c next (of_instance i) h low = go i.number
  where
    go : (n : Option ℕ) → NumberBelow (numbered_instance c i n).0.host (host_number (numbered_instance c i n).1)
    go None = tt
    go (Some n) = tt
mark_below c next (of_host k) h low = go k low
  where
    go : (n : Option ℕ) → NumberBelow next n → NumberBelow (numbered_host c n).0.host (host_number (numbered_host c n).1)
    go None low = omega arith
    go (Some n) low = omega arith
mark_below c next (of_boundary b) h low = tt
mark_below c next (of_catcher z) h low = tt
mark_below c next plain h low = tt

below_more : (a b : ℕ) (o : Option ℕ) → a ≤ b → NumberBelow a o → NumberBelow b o
below_more a b None h low = tt
below_more a b (Some n) h low = omega arith

mutual
  tree_below_more : (a b : ℕ) (x : Node) → a ≤ b → IsBelow a x → IsBelow b x
  tree_below_more a b (node e m ns fs) h low = (below_more a b (host_number m) h low.0, trees_below_more a b ns h low.1, trees_below_more a b fs h low.2)

  trees_below_more : (a b : ℕ) (ns : Forest) → a ≤ b → AllBelow a ns → AllBelow b ns
  trees_below_more a b none h low = tt
  trees_below_more a b (vacant ns) h low = trees_below_more a b ns h low
  trees_below_more a b (child x ns) h low = (tree_below_more a b x h low.0, trees_below_more a b ns h low.1)

none_stays : (c : Numbers) (e : Element) (ns : Forest) → HasNone e ns → HasNone e (numbered_in c ns).1
none_stays c elements.null ns h = tt
none_stays c (elements.text t) ns h = ap (λ (x : Forest). (numbered_in c x).1) h
none_stays c (elements.host n k attrs es) ns h = tt
none_stays c (elements.comp i k ps es) ns h = tt
none_stays c (elements.list marked es) ns h = tt
none_stays c (elements.boundary k f es) ns h = tt
none_stays c (elements.catcher k f es) ns h = tt
none_stays c (elements.provider i k x es) ns h = tt

caught_stays : (c : Numbers) (m : Mark) → is_caught (numbered_mark c m).1 ≡ is_caught m
caught_stays c (of_instance i) = go i.number
  where
    go : (n : Option ℕ) → is_caught (numbered_instance c i n).1 ≡ false
    go None = refl
    go (Some n) = refl
caught_stays c (of_host h) = go h
  where
    go : (n : Option ℕ) → is_caught (numbered_host c n).1 ≡ false
    go None = refl
    go (Some n) = refl
caught_stays c (of_boundary b) = refl
caught_stays c (of_catcher k) = refl
caught_stays c plain = refl

lack_stays : (d c : Numbers) (e : Element) (m : Mark) (fs : Forest) → LacksFallback e m fs → LacksFallback e (numbered_mark c m).1 (numbered_in d fs).1
lack_stays d c elements.null m fs h = tt
lack_stays d c (elements.text t) m fs h = tt
lack_stays d c (elements.host n k attrs es) m fs h = tt
lack_stays d c (elements.comp i k ps es) m fs h = tt
lack_stays d c (elements.list marked es) m fs h = tt
lack_stays d c (elements.boundary k f es) m fs h = tt
lack_stays d c (elements.catcher k f es) m fs h = λ fine. ap (λ (x : Forest). (numbered_in d x).1) (h (sym (caught_stays c m) ∙ fine))
lack_stays d c (elements.provider i k x es) m fs h = tt

mutual
  numbered_fine : (c : Numbers) (x : Node) → IsFine x → IsFine (numbered c x).1
  numbered_fine c (node e m ns fs) h = (
    host_stays c m ∙ h.0,
    h.1,
    h.2,
    all_numbered_fine (numbered_mark c m).0 ns h.3,
    all_numbered_fine (numbered_in (numbered_mark c m).0 ns).0 fs h.4,
    none_stays (numbered_mark c m).0 e ns h.5,
    lack_stays (numbered_in (numbered_mark c m).0 ns).0 c e m fs h.6,
  )

  all_numbered_fine : (c : Numbers) (ns : Forest) → AllFine ns → AllFine (numbered_in c ns).1
  all_numbered_fine c none h = tt
  all_numbered_fine c (vacant ns) h = all_numbered_fine c ns h
  all_numbered_fine c (child x ns) h = (numbered_fine c x h.0, all_numbered_fine (numbered c x).0 ns h.1)

mutual
  numbered_has : (c : Numbers) (x : Node) → IsFine x → AreNumbered (numbered c x).1
  numbered_has c (node e m ns fs) h = (
    mark_numbered c e m h.0,
    all_numbered_have (numbered_mark c m).0 ns h.3,
    all_numbered_have (numbered_in (numbered_mark c m).0 ns).0 fs h.4,
  )

  all_numbered_have : (c : Numbers) (ns : Forest) → AllFine ns → AreNumbered_in (numbered_in c ns).1
  all_numbered_have c none h = tt
  all_numbered_have c (vacant ns) h = all_numbered_have c ns h
  all_numbered_have c (child x ns) h = (numbered_has c x h.0, all_numbered_have (numbered c x).0 ns h.1)

mutual
  numbered_below : (c : Numbers) (next : ℕ) (x : Node) → next ≤ c.host → IsBelow next x → IsBelow (numbered c x).0.host (numbered c x).1
  numbered_below c next (node e m ns fs) h low =
      let own = numbered_mark c m in
      let first = numbered_in own.0 ns in (
        below_more own.0.host (numbered_in first.0 fs).0.host (host_number own.1)
            (omega (arith, numbers_rise own.0 ns, numbers_rise first.0 fs)) (mark_below c next m h low.0),
        trees_below_more first.0.host (numbered_in first.0 fs).0.host first.1 (omega (arith, numbers_rise first.0 fs))
            (all_numbered_below own.0 next ns (omega (arith, mark_rises c m)) low.1),
        all_numbered_below first.0 next fs (omega (arith, mark_rises c m, numbers_rise own.0 ns)) low.2,
      )

  all_numbered_below : (c : Numbers) (next : ℕ) (ns : Forest) → next ≤ c.host → AllBelow next ns → AllBelow (numbered_in c ns).0.host (numbered_in c ns).1
  all_numbered_below c next none h low = tt
  all_numbered_below c next (vacant ns) h low = all_numbered_below c next ns h low
  all_numbered_below c next (child x ns) h low = (
    tree_below_more (numbered c x).0.host (numbered_in (numbered c x).0 ns).0.host (numbered c x).1 (omega (arith, numbers_rise (numbered c x).0 ns))
        (numbered_below c next x h low.0),
    all_numbered_below (numbered c x).0 next ns (omega (arith, number_rises c x)) low.1,
  )

-- What commits keep

-- what is known of the numbers that come next and the tree
record IsKept (p : Program) (next : Numbers) (old : Option Node) : Type 0 where
  positive : 1 ≤ next.host
  is_old : IfOld (IsOld next.host) old
  root : IfSome old (λ o. element_of o ≡ root_element p)
  once : (n : ℕ) → times_if n old ≤ 1
  none_zero : times_if 0 old ≤ 0

root_kind : (p : Program) (old : Option Node) → IfSome old (λ o. element_of o ≡ root_element p) → IfSameKind (root_element p) old
root_kind p None h = tt
root_kind p (Some o) h = subst (λ e. same_kind (kind_of (root_element p)) (kind_of e) ≡ true) (sym h) (same_kind-self (root_element p) refl)

old_above : (n next : ℕ) → next ≤ n → (old : Option Node) → IfOld (IsOld next) old → times_if n old ≤ 0
old_above n next h None old = omega arith
old_above n next h (Some o) old = none_above n next h o old.2

numbered_root : (c : Numbers) (x : Node) → element_of (numbered c x).1 ≡ element_of x
numbered_root c (node e m ns fs) = refl

module _ (p : Program) (next : Numbers) (old : Option Node) (x : Node) (kept : IsKept p next old) (grown : PlaceGrows next.host (root_element p) old (made x)) where
  abbrev new : Node
  new = (numbered next x).1

  few : (n : ℕ) → n < next.host → times n x ≤ times_if n old
  few n h = omega (arith, grown_counts n next.host h old x grown.3)

  new_once : (n : ℕ) → times n new ≤ 1
  new_once n = go (cases_lt n next.host)
    where
      go : (n < next.host) ⊎ (next.host ≤ n) → times n new ≤ 1
      go (inl h) = omega (arith, numbered_counts n next x, few n h, kept.once n, not_below next.host (numbered next x).0.host n h)
      go (inr h) = omega (arith, numbered_counts n next x, none_above n next.host h x grown.2, no_more_than_one next.host (numbered next x).0.host n)

  new_none_zero : times 0 new ≤ 0
  new_none_zero =
      let h : 0 < next.host = kept.positive in
      omega (arith, numbered_counts 0 next x, few 0 h, kept.none_zero, not_below next.host (numbered next x).0.host 0 h)

  new_numbered : AreNumbered new
  new_numbered = numbered_has next x grown.1

  -- one more commit keeps it
  stays_kept : IsKept p (numbered next x).0 (Some new)
  stays_kept = record {
    positive = omega (arith, kept.positive, number_rises next x);
    is_old = (numbered_fine next x grown.1, new_numbered, numbered_below next next.host x (omega arith) grown.2);
    root = numbered_root next x ∙ grown.0;
    once = new_once;
    none_zero = new_none_zero;
  }

  -- The commit

  sound : (y : Node) → AreNumbered y → ((n : ℕ) → times n y ≤ 1) → times 0 y ≤ 0 → IsSound y
  sound y num one zero = record {
    numbered = num;
    distinct = distinct_once (hosts_at at_root y) (λ n. omega (arith, occurs_times n at_root y num, one n));
    above = none_there 0 (hosts_at at_root y) (omega (arith, occurs_times 0 at_root y num, zero));
  }

  old_sound : (o : Option Node) → IfOld (IsOld next.host) o → ((n : ℕ) → times_if n o ≤ 1) → times_if 0 o ≤ 0 → IfSound o
  old_sound None h one zero = tt
  old_sound (Some o) h one zero = sound o h.1 one zero

  not_there : (o : Option Node) → IfOld (IsOld next.host) o → (n : ℕ) → times_if n o ≤ 0 → has_host (hosts o) n ≡ false
  not_there None h n none_of = refl
  not_there (Some o) h n none_of = none_there n (hosts_at at_root o) (omega (arith, occurs_times n at_root o h.1))

  grows : Grows next.host old new
  grows = numbered_grows next.host next (omega arith) old x grown.3

  there : (n : ℕ) → 1 ≤ times n new → has_host (hosts (Some new)) n ≡ true
  there n h = some_there n (hosts_at at_root new) (omega (arith, occurs_times n at_root new new_numbered))

  gone : (n : ℕ) → 1 ≤ lost n old new → has_host (hosts (Some new)) n ≡ false
  gone n h = go (cases_lt n next.host)
    where
      go : (n < next.host) ⊎ (next.host ≤ n) → has_host (hosts (Some new)) n ≡ false
      go (inl low) =
          none_there n (hosts_at at_root new)
          (omega (arith, occurs_times n at_root new new_numbered, grown_counts n next.host low old new grows, kept.once n))
      go (inr high) = absurd (omega (arith, lost_within n old new, old_above n next.host high old kept.is_old))

  late : (n : ℕ) → next.host ≤ n → is_taken old n ≡ false
  late n h =
      let positive : nat_eq 0 n ≡ false = let k : 1 ≤ next.host = kept.positive in grind (arith, nat_tests) in
      rw (positive, not_there old kept.is_old n (old_above n next.host h old kept.is_old)) refl

  stays : (n : ℕ) → has_host (hosts (Some new)) n ≡ true → has_gone (hosts old) (hosts (Some new)) n ≡ false
  stays n h = rw h (go (has_host (hosts old) n))
    where
      go : (b : Bool) → (b && false) ≡ false
      go true = refl
      go false = refl

  root_stays : has_gone (hosts old) (hosts (Some new)) 0 ≡ false
  root_stays = rw (not_there old kept.is_old 0 kept.none_zero) refl

  goes_below : (o : Option Node) → old ≡ o → IfOld (IsOld next.host) o → GoneBelow (hosts o) (hosts (Some new))
  goes_below None same h = tt
  goes_below (Some o) same h =
      below_at next.host (has_host (hosts (Some new))) (has_gone (hosts (Some o)) (hosts (Some new)))
      (subst (λ o. (n : ℕ) → has_host (hosts (Some new)) n ≡ true → has_gone (hosts o) (hosts (Some new)) n ≡ false) same stays)
      at_root (subst (λ o. has_gone (hosts o) (hosts (Some new)) 0 ≡ false) same root_stays) o new (subst (λ o. Grows next.host o new) same grows) h.1 there
      (subst (λ o. (n : ℕ) → 1 ≤ lost n o new → has_host (hosts (Some new)) n ≡ false) same gone)

  later : (n : ℕ) → next.host ≤ n → host_numbered (hosts old) n ≡ None
  later n h = missing (hosts old) n (not_there old kept.is_old n (old_above n next.host h old kept.is_old))

  found : (o : Option Node) → IfOld (IsOld next.host) o → IfSound o
      → IfOld (λ n. AreNumbered n × (a : Around) × AllByRecursion (IsOwn (hosts o)) (hosts_at a n)) o
  found None h s = tt
  found (Some o) h s = (h.1, at_root, each_own (hosts_at at_root o) s.distinct)

  is_commit : IsCommit old new
  is_commit = record {
    old_sound = old_sound old kept.is_old kept.once kept.none_zero;
    new_sound = sound new new_numbered new_once new_none_zero;
    rendered = rendered_from next.host (has_host (hosts (Some new))) (is_taken old) late (from_root old) new grows new_numbered there gone;
    gone_below = goes_below old refl kept.is_old;
    kinds = kinds_at next.host (hosts old) later old at_root new grows new_numbered (numbered_fine next x grown.1)
        (found old kept.is_old (old_sound old kept.is_old kept.once kept.none_zero));
  }

-- What commits left is kept

nothing_kept : (p : Program) (next : Numbers) → 1 ≤ next.host → IsKept p next None
nothing_kept p next h = record { positive = h; is_old = tt; root = tt; once = λ n. omega arith; none_zero = omega arith }

rendered_grown : (p : Program) → IsBounded p → AttributesApart p → (s : Sight) → s.program ≡ p → (next : Numbers) (old : Option Node) (x : Node) → IsKept p next old → fresh s old ≡ made x
    → PlaceGrows next.host (root_element p) old (made x)
rendered_grown p bounded apart s same next old x kept gives =
    subst (λ q. PlaceGrows next.host (root_element q) old (made x)) same
    (fresh_grows next.host s (subst (λ q. depth_bound q ≤ depth_limit) (sym same) bounded.shallow) (subst AttributesApart (sym same) apart) old x gives kept.is_old
    (root_kind s.program old (subst (λ q. IfSome old (λ o. element_of o ≡ root_element q)) (sym same) kept.root)))

committed_kept : (p : Program) → IsBounded p → AttributesApart p → (next : Numbers) (old : Option Node) → IsCommitted p next old → IsKept p next old
committed_kept p bounded apart _ _ (none_yet next h) = nothing_kept p next h
committed_kept p bounded apart _ _ (one_more s next old x same h gives) =
    let kept = committed_kept p bounded apart next old h in
    stays_kept p next old x kept (rendered_grown p bounded apart s same next old x kept gives)

-- each render against it is a commit, and no text has children
pub renders_commit : (p : Program) → RendersCommit p
renders_commit p bounded apart s next old x same h gives =
    let kept = committed_kept p bounded apart next old h in
    let grown = rendered_grown p bounded apart s same next old x kept gives in
    (is_commit p next old x kept grown, fine_leaves (numbered next x).1 (numbered_fine next x grown.1))
