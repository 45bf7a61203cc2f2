-- Trees without what stayed the same are alike to the whole ones.
use Rattle.std.specs.Prelude.{◌≡◌, ℕ, zero, suc, Bool, true, false, not, ◌&&◌, ◌||◌, List, [], ◌∷◌, Option, Some, None, cond, filter, filter_map, length, map, option_and_then, slice_get, refl}
use Rattle.std.specs.List.{range_with_len, zip}
use Rattle.std.specs.Option.{option_flatten, option_map_or}
use Rattle.std.proofs.Common.{ap, arith, sym, subst, ◌∙◌}
use Rattle.std.proofs.lemmas.List.Elements.{filter_map-append}
use Rattle.rx_elem.specs.Elements.{Element, is_present}
use Rattle.rx_elem.specs.Identity.{is_reused, old_places, moves_after}
use Rattle.rx_elem.specs.Trees.{Mark, Node, node, Forest, none, vacant, child, element_of, elements_in, is_hidden, places}
use Rattle.rx_elem.specs.Compare.{Above, AllCompared, Compared, Past, above_children, above_root, change_of, changes, changes_in, compare, compare_in, compare_trees, comparison, gone_nodes, no_comparisons, node_at, pasts}
use Rattle.rx_forest.specs.HostOps.{placed_in}
use Rattle.rx_meaning.specs.Outcome.{caught_anew}
use Rattle.rx_compare.specs.InPlace.{AreInPlace, stayed}
use Rattle.rx_compare.proofs.InPlace.{no_nodes_gone, pasts_in_place}
use Rattle.rx_pruned.specs.Pruned.{KeepsGone, Pruned, whole, cut, inside, in_place, PrunedInPlace, each, through, PrunedIn, no_more, gap, same, pair, left, ArePruned, first, later, displaced_below, was}
use Rattle.rx_pruned.proofs.InPlace.{kept_in_place, wholes_in_place}
use Rattle.prune_laws.specs.Present.{HasNoNull, AllHaveNoNull, IfHasNoNull}
use Rattle.prune_laws.proofs.Alike.{AreAlike, IsAlike, alike_itself, all_alike_themselves, alike_both, hidden_awaits-append, more_alike, node_alike}
use Rattle.prune_laws.proofs.Bare.{bare_says_nothing}
use Rattle.prune_laws.proofs.Fewer.{as_many_pasts, is_missing}
use Rattle.prune_laws.proofs.SelfChanges.{AreStill, all_self_still, self_still}
use Rattle.prune_laws.proofs.SelfLogs.{IsSilent, all_self_silent, self_silent}
use Rattle.prune_laws.proofs.SelfPasts.{pasts_unmoved, unmoved}
use Rattle.prune_laws.proofs.SelfPlaces.{none_removed}

-- What is gone

found_alike : (test : ℕ → Bool) (f g : ℕ → Option Node) → ((p : ℕ) → test p ≡ true → f p ≡ g p) → (ps : List ℕ) → filter_map f (filter test ps) ≡ filter_map g (filter test ps)
found_alike test f g h [] = refl
found_alike test f g h (p ∷ ps) = go (test p) refl (found_alike test f g h ps)
  where
    go : (b : Bool) → test p ≡ b → filter_map f (filter test ps) ≡ filter_map g (filter test ps)
        → filter_map f (cond b (p ∷ filter test ps) (filter test ps)) ≡ filter_map g (cond b (p ∷ filter test ps) (filter test ps))
    go true e k = rw (h p e, k) refl
    go false e k = k

not_reused : (b c : Bool) → (b && not c) ≡ true → c ≡ false
not_reused true true h = absurd (cc h)
not_reused true false h = refl
not_reused false c h = absurd (cc h)

gone_alike : (os ps : Forest) (es : List Element) → KeepsGone os ps es → gone_nodes ps es ≡ gone_nodes os es
gone_alike os ps es keeps =
    rw keeps.elements
    (found_alike (λ p. option_map_or is_present (slice_get (elements_in os) p) false && not (is_reused (old_places (elements_in os) es) p)) (node_at ps) (node_at os)
    (λ p h. keeps.gone p (not_reused (option_map_or is_present (slice_get (elements_in os) p) false) (is_reused (old_places (elements_in os) es) p) h)) (range_with_len 0 (length (elements_in os))))

-- What was there

abbrev PastsPresent : List Past → Type 0
PastsPresent [] = Unit {0}
PastsPresent (p ∷ ps) = IfHasNoNull p.old × PastsPresent ps

got_present : (ns : Forest) → AllHaveNoNull ns → (q : ℕ) → IfHasNoNull (option_flatten (slice_get (places ns) q))
got_present none h q = tt
got_present (vacant ns) h zero = tt
got_present (vacant ns) h (suc q) = got_present ns h q
got_present (child n ns) h zero = h.0
got_present (child n ns) h (suc q) = got_present ns h.1 q

past_each : (ns : Forest) → AllHaveNoNull ns → (earlier : List ℕ) (qs : List (Option ℕ))
    → PastsPresent (map (λ x. record { old = x.0; moved = x.1 }) (zip (map (option_and_then (node_at ns)) qs) (moves_after earlier qs)))
past_each ns h earlier [] = tt
past_each ns h earlier (None ∷ qs) = (tt, past_each ns h earlier qs)
past_each ns h earlier (Some q ∷ qs) = (got_present ns h q, past_each ns h (q ∷ earlier) qs)

pasts_present : (ns : Forest) (es : List Element) → AllHaveNoNull ns → PastsPresent (pasts ns es)
pasts_present ns es h = past_each ns h [] (old_places (elements_in ns) es)

-- no past of children that stay has a node of null
stayed_present : (ns : Forest) → AllHaveNoNull ns → PastsPresent (stayed ns)
stayed_present none h = tt
stayed_present (vacant ns) h = (tt, stayed_present ns h)
stayed_present (child n ns) h = (h.0, stayed_present ns h.1)

-- Elements stay

-- what is pruned has the same element
same_element_of : {d : Bool} {o n p q : Node} → Pruned d o n p q → element_of q ≡ element_of n
same_element_of whole = refl
same_element_of (cut on still) = refl
same_element_of (inside on keeps below) = refl
same_element_of (in_place on lists) = refl

-- lists of as many children have the same elements
same_elements_in : {d : Bool} {ps qs : List Past} {ns ms : Forest} → PrunedIn d ps ns qs ms → length qs ≡ length ps → elements_in ms ≡ elements_in ns
same_elements_in no_more as_many = refl
same_elements_in (gap rest) as_many = rw (same_elements_in rest (omega arith)) refl
same_elements_in (same rest) as_many = rw (same_elements_in rest (omega arith)) refl
same_elements_in (pair one rest) as_many = rw (same_element_of one, same_elements_in rest (omega arith)) refl
same_elements_in (left still rest) as_many = absurd (is_missing rest as_many)

-- What says nothing

-- one comparison more that says nothing leaves them alike
one_silent : (c : Compared) (cs ds : AllCompared) → IsSilent c → AreStill (changes c) → AreAlike cs ds → AreAlike cs (comparison c ds)
one_silent c cs ds silent still h = record {
  destroys = λ phase. rw (silent.destroys phase) (h.destroys phase);
  creates = λ phase. rw (silent.creates phase) (h.creates phase);
  places = rw (filter_map-append placed_in (changes c) (changes_in ds), still.places) h.places;
  catches = rw (filter_map-append caught_anew (changes c) (changes_in ds), still.catches) h.catches;
  hides = rw (hidden_awaits-append (changes c) (changes_in ds), still.hides) h.hides;
}

-- Nodes and their children

seen_below : (a : Above) (moved : Bool) (e f : Element) (m w : Mark) (os ns : Forest) → a.was_visible ≡ true → is_hidden m ≡ false
    → (above_children (change_of a (was (node e m os none) moved) (node f w ns none))).was_visible ≡ true
seen_below a moved e f m w os ns h k = rw (h, k) refl

mutual
  pruned_alike : {d : Bool} {o n p q : Node} → Pruned d o n p q → HasNoNull o → (a : Above) (moved : Bool) → a.was_visible ≡ true → (a.displaced || moved) ≡ d
      → IsAlike (compare a (was p moved) q) (compare a (was o moved) n)
  pruned_alike {d} {o} {n} whole present a moved seen here = alike_itself (compare a (was o moved) n)
  pruned_alike (cut {d} {e} {f} {m} {w} {ns} on still) present a moved seen here =
      let top : Above = above_children (change_of a (was (node e m ns none) moved) (node f w ns none)) in
      let settled : top.displaced ≡ false = ap (λ b. displaced_below b w) here ∙ still in
      let silent = all_self_silent top (seen_below a moved e f m w ns ns seen on.old_shown) ns present.1 in
      let calm = all_self_still top settled ns present.1 in
      let kids : AreAlike no_comparisons (compare_in top (unmoved ns) ns) = record {
        destroys = λ phase. sym (silent.destroys phase);
        creates = λ phase. sym (silent.creates phase);
        places = sym calm.places;
        catches = sym calm.catches;
        hides = rw calm.hides refl;
      } in
      node_alike a moved e f m w ns ns none none on (rw (none_removed (elements_in ns)) refl) (rw (pasts_unmoved ns present.1) kids)
  pruned_alike (inside {d} {e} {f} {m} {w} {os} {ns} {ps} {qs} on keeps below) present a moved seen here =
      let top : Above = above_children (change_of a (was (node e m os none) moved) (node f w ns none)) in
      let elements : elements_in qs ≡ elements_in ns = same_elements_in below (as_many_pasts os ps (elements_in ns) keeps.elements) in
      let kids : AreAlike (compare_in top (pasts ps (elements_in ns)) qs) (compare_in top (pasts os (elements_in ns)) ns) =
      all_pruned_alike below (pasts_present os (elements_in ns) present.1) top (seen_below a moved e f m w os ns seen on.old_shown) (ap (λ b. displaced_below b w) here) in
      node_alike a moved e f m w os ns ps qs on (rw elements (gone_alike os ps (elements_in ns) keeps))
      (subst (λ es. AreAlike (compare_in top (pasts ps es) qs) (compare_in top (pasts os (elements_in ns)) ns)) (sym elements) kids)
  pruned_alike (in_place {d} {e} {f} {m} {w} {os} {ns} {ps} {qs} on lists) present a moved seen here =
      let top : Above = above_children (change_of a (was (node e m os none) moved) (node f w ns none)) in
      let kept : AreInPlace ps qs = kept_in_place lists in
      let wholes : AreInPlace os ns = wholes_in_place lists in
      let kids : AreAlike (compare_in top (stayed ps) qs) (compare_in top (stayed os) ns) =
      in_place_alike lists present.1 top (seen_below a moved e f m w os ns seen on.old_shown) (ap (λ b. displaced_below b w) here) in
      node_alike a moved e f m w os ns ps qs on (no_nodes_gone ps qs kept ∙ sym (no_nodes_gone os ns wholes))
      (rw (pasts_in_place ps qs kept, pasts_in_place os ns wholes) kids)

  in_place_alike : {d : Bool} {os ns ps qs : Forest} → PrunedInPlace d os ns ps qs → AllHaveNoNull os → (a : Above) → a.was_visible ≡ true → a.displaced ≡ d
      → AreAlike (compare_in a (stayed ps) qs) (compare_in a (stayed os) ns)
  in_place_alike (each {os = os} wholes kept below) present a seen here = all_pruned_alike below (stayed_present os present) a seen here
  in_place_alike (through {e} {f} {m} {w} {os} {ns} {ps} {qs} bare stands lists) present a seen here =
      alike_both (in_place_alike lists present.0.1 a seen here) (bare_says_nothing a e f m w os ns bare (wholes_in_place lists) seen here)

  all_pruned_alike : {d : Bool} {ps qs : List Past} {ns ms : Forest} → PrunedIn d ps ns qs ms → PastsPresent ps → (a : Above) → a.was_visible ≡ true → a.displaced ≡ d
      → AreAlike (compare_in a qs ms) (compare_in a ps ns)
  all_pruned_alike no_more present a seen here = all_alike_themselves no_comparisons
  all_pruned_alike (gap rest) present a seen here = all_pruned_alike rest present.1 a seen here
  all_pruned_alike (same {d} {p} {ps} {qs} {n} {ns} {ms} rest) present a seen here =
      more_alike (compare a p n) (compare a p n) (compare_in a qs ms) (compare_in a ps ns) (alike_itself (compare a p n)) (all_pruned_alike rest present.1 a seen here)
  all_pruned_alike (pair {d} {moved} {o} {n} {p} {q} {ps} {qs} {ns} {ms} one rest) present a seen here =
      more_alike (compare a (was p moved) q) (compare a (was o moved) n) (compare_in a qs ms) (compare_in a ps ns)
      (pruned_alike one present.0 a moved seen (ap (λ b. b || moved) here)) (all_pruned_alike rest present.1 a seen here)
  all_pruned_alike (left {d} {n} {ps} {qs} {ns} {ms} still rest) present a seen here =
      one_silent (compare a (was n false) n) (compare_in a qs ms) (compare_in a ps ns) (self_silent a seen n present.0) (self_still a (here ∙ still) n present.0)
      (all_pruned_alike rest present.1 a seen here)

-- Both trees without what stayed the same are compared alike.
pub trees_alike : {o p : Option Node} {n q : Node} → ArePruned o n p q → IfHasNoNull o → IsAlike (compare_trees p q) (compare_trees o n)
trees_alike (first {n}) present = alike_itself (compare_trees None n)
trees_alike (later {o} {n} {p} {q} pruned) present = pruned_alike pruned present above_root false refl refl
