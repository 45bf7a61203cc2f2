-- An old tree and the new one leave out an instance equally often.
use Rattle.std.proofs.Common.{◌≡◌, ℕ, suc, ◌+◌, ◌≤◌, Option, Some, None, List, [], ◌∷◌, cond, length, map, option_and_then, refl, sym, ap, ◌∙◌, arith}
use Rattle.std.specs.List.{zip}
use Rattle.std.specs.Option.{option_flatten}
use Rattle.std.proofs.lemmas.Option.{slice_get_past}
use Rattle.rx_elem.specs.Elements.{Element}
use Rattle.rx_elem.specs.Identity.{moves_after, old_places}
use Rattle.rx_elem.specs.Trees.{Forest, Mark, Node, child, elements_in, instance_in, none, of_boundary, of_catcher, of_host, of_instance, plain, places, vacant}
use Rattle.rx_elem.specs.Compare.{Past, node_at, pasts}
use Rattle.rx_meaning.specs.Settled.{is_numbered_so, number_of, times_numbered, times_numbered_if, times_numbered_in}
use Rattle.rx_compare.specs.InPlace.{stayed}
use Rattle.rx_pruned.specs.Pruned.{ArePruned, KeepsGone, Pruned, PrunedIn, PrunedInPlace, StaysBare, cut, each, first, gap, in_place, inside, later, left, no_more, pair, same, through, whole}
use Rattle.host_laws.proofs.IdentityLaws.{places_distinct}
use Rattle.prune_laws.specs.LeftOut.{LeaveOutAlike}
use Rattle.prune_laws.proofs.Sums.{picked, picked_differ, total}

-- how often an instance stands at a place
abbrev at_place : ℕ → Forest → ℕ → ℕ
at_place k ns j = times_numbered_if k (node_at ns j)

-- how often it stands in pasts
abbrev in_pasts : ℕ → List Past → ℕ
in_pasts k [] = 0
in_pasts k (p ∷ ps) = times_numbered_if k p.old + in_pasts k ps

-- ---- a list, place by place

all_places : (k : ℕ) (ns : Forest) → times_numbered_in k ns ≡ total (length (elements_in ns)) (at_place k ns)
all_places k none = refl
all_places k (vacant ns) = omega (arith, all_places k ns)
all_places k (child n ns) = ap (λ t. times_numbered k n + t) (all_places k ns)

as_many : (ns : Forest) → length (places ns) ≡ length (elements_in ns)
as_many none = refl
as_many (vacant ns) = ap suc (as_many ns)
as_many (child n ns) = ap suc (as_many ns)

nothing_past : (k : ℕ) (ns : Forest) (j : ℕ) → length (elements_in ns) ≤ j → at_place k ns j ≡ 0
nothing_past k ns j past =
    ap (λ (o : Option (Option Node)). times_numbered_if k (option_flatten o)) (slice_get_past (places ns) j (let same = as_many ns in omega arith))

picked_pasts : (k : ℕ) (ns : Forest) (earlier : List ℕ) (ps : List (Option ℕ))
    → in_pasts k (map (λ x. let p : Past = record { old = x.0; moved = x.1 } in p) (zip (map (option_and_then (node_at ns)) ps) (moves_after earlier ps))) ≡ picked (at_place k ns) ps
picked_pasts k ns earlier [] = refl
picked_pasts k ns earlier (None ∷ ps) = let rest = picked_pasts k ns earlier ps in omega arith
picked_pasts k ns earlier (Some p ∷ ps) = ap (λ t. at_place k ns p + t) (picked_pasts k ns (p ∷ earlier) ps)

-- an old list changes by what its reused nodes change by
gone_stay : (k : ℕ) (os ps : Forest) (es : List Element) → KeepsGone os ps es
    → times_numbered_in k os + in_pasts k (pasts ps es) ≡ times_numbered_in k ps + in_pasts k (pasts os es)
gone_stay k os ps es h =
    let same_places : old_places (elements_in ps) es ≡ old_places (elements_in os) es = ap (λ l. old_places l es) h.elements in
    let there : in_pasts k (pasts ps es) ≡ picked (at_place k ps) (old_places (elements_in os) es) =
    picked_pasts k ps [] (old_places (elements_in ps) es) ∙ ap (picked (at_place k ps)) same_places in
    let length_is : length (elements_in ps) ≡ length (elements_in os) = ap length h.elements in
    let in_pruned : times_numbered_in k ps ≡ total (length (elements_in os)) (at_place k ps) = all_places k ps ∙ ap (λ n. total n (at_place k ps)) length_is in
    let differ = picked_differ (length (elements_in os)) (at_place k os) (at_place k ps) (old_places (elements_in os) es)
    (λ i j p a b. places_distinct (elements_in os) es i j p a b)
    (λ p past. nothing_past k os p past ∙ sym (nothing_past k ps p (omega arith)))
    (λ p free. ap (times_numbered_if k) (sym (h.gone p free))) in
    omega (arith, differ, there, in_pruned, all_places k os, picked_pasts k os [] (old_places (elements_in os) es))

-- the instances of a list are those of the pasts of children that stay
stayed_times : (k : ℕ) (ns : Forest) → in_pasts k (stayed ns) ≡ times_numbered_in k ns
stayed_times k none = refl
stayed_times k (vacant ns) = omega (arith, stayed_times k ns)
stayed_times k (child n ns) = ap (λ t. times_numbered k n + t) (stayed_times k ns)

-- ---- an instance that stays

-- how often a mark has this number
abbrev its_times : ℕ → Mark → ℕ
its_times k m = cond (is_numbered_so k (number_of m)) 1 0

number_in : (m : Mark) → number_of m ≡ option_and_then (λ i. i.number) (instance_in m)
number_in (of_instance i) = refl
number_in (of_host h) = refl
number_in (of_boundary b) = refl
number_in (of_catcher c) = refl
number_in plain = refl

-- it had the number that it has
same_numbers : (m w : Mark) → StaysBare m w → number_of m ≡ number_of w
same_numbers m w bare = number_in m ∙ bare.was ∙ sym bare.is ∙ sym (number_in w)

-- ---- the trees

-- two numbers are more than two others by the same
record Alike (a b x y : ℕ) : Type 0 where
  times : ℕ
  one : a ≡ x + times
  other : b ≡ y + times

none_left : (a b : ℕ) → Alike a b a b
none_left a b = record { times = 0; one = omega arith; other = omega arith }

mutual
  node_left : (k : ℕ) {d : _} {o n p q : Node} → Pruned d o n p q → Alike (times_numbered k o) (times_numbered k n) (times_numbered k p) (times_numbered k q)
  node_left k (whole {o = o} {n = n}) = none_left (times_numbered k o) (times_numbered k n)
  node_left k (cut {ns = ns} goes shown) = record { times = times_numbered_in k ns; one = omega arith; other = omega arith }
  node_left k (inside {os = os} {ns = ns} {ps = ps} {qs = qs} goes gone list) =
      let below = list_left k list in
      let stay = gone_stay k os ps (elements_in ns) gone in
      let one = below.one in
      let other = below.other in
      record { times = below.times; one = omega arith; other = omega arith }
  node_left k (in_place {os = os} {ns = ns} {ps = ps} {qs = qs} goes lists) =
      let below = in_place_left k lists in
      let one = below.one in
      let other = below.other in
      record { times = below.times; one = omega arith; other = omega arith }

  in_place_left : (k : ℕ) {d : _} {os ns ps qs : Forest} → PrunedInPlace d os ns ps qs
      → Alike (times_numbered_in k os) (times_numbered_in k ns) (times_numbered_in k ps) (times_numbered_in k qs)
  in_place_left k (each {os = os} {ns = ns} {ps = ps} {qs = qs} olds news list) =
      let below = list_left k list in
      let one = below.one in
      let other = below.other in
      record { times = below.times; one = omega (arith, stayed_times k os, stayed_times k ps); other = omega arith }
  in_place_left k (through {m = m} {w = w} {os = os} {ns = ns} {ps = ps} {qs = qs} bare stands lists) =
      let below = in_place_left k lists in
      let one = below.one in
      let other = below.other in
      let same = same_numbers m w bare in
      let itself : its_times k m ≡ its_times k w = ap (λ o. let n : ℕ = cond (is_numbered_so k o) 1 0 in n) same in
      record { times = its_times k m + below.times; one = omega arith; other = omega (arith, itself) }

  list_left : (k : ℕ) {d : _} {ps : List Past} {ns : Forest} {qs : List Past} {ms : Forest} → PrunedIn d ps ns qs ms
      → Alike (in_pasts k ps) (times_numbered_in k ns) (in_pasts k qs) (times_numbered_in k ms)
  list_left k no_more = none_left 0 0
  list_left k (gap list) = let rest = list_left k list in let one = rest.one in let other = rest.other in record { times = rest.times; one = omega arith; other = omega arith }
  list_left k (same list) = let rest = list_left k list in let one = rest.one in let other = rest.other in record { times = rest.times; one = omega arith; other = omega arith }
  list_left k (pair here list) =
      let h = node_left k here in
      let rest = list_left k list in
      let a = h.one in
      let b = h.other in
      let c = rest.one in
      let d = rest.other in
      record { times = h.times + rest.times; one = omega arith; other = omega arith }
  list_left k (left {n = n} still list) =
      let rest = list_left k list in
      let one = rest.one in
      let other = rest.other in
      record { times = times_numbered k n + rest.times; one = omega arith; other = omega arith }

pub left_alike : (old : Option Node) (new : Node) (pruned_old : Option Node) (pruned_new : Node) → ArePruned old new pruned_old pruned_new → (n : ℕ)
    → LeaveOutAlike n old new pruned_old pruned_new
left_alike old new pruned_old pruned_new (first {n = x}) n = record { times = 0; old_is = omega arith; new_is = omega arith }
left_alike old new pruned_old pruned_new (later h) n = let both = node_left n h in record { times = both.times; old_is = both.one; new_is = both.other }
