-- A tree against itself places nothing if it isn't displaced, catches nothing, and hides nothing anew.
use Rattle.std.specs.Prelude.{◌≡◌, Bool, true, false, List, [], ◌∷◌, ◌++◌, Option, Some, None, cond, filter, filter_map, if◌then◌else◌, is_some, refl, ℤ}
use Rattle.std.specs.Option.{option_map_or}
use Rattle.std.proofs.lemmas.List.Elements.{filter-append, filter_map-append}
use Rattle.rx_susp.specs.declared.boundary.BoundaryState.{BoundaryState}
use Rattle.rx_susp.specs.declared.boundary.BoundaryState.TheVariants.{Hidden, Shown}
use Rattle.rx_susp.specs.Boundary.{would_hide}
use Rattle.rx_elem.specs.Trees.{Node, node, Forest, none, vacant, child, elements_in, boundary_in, caught_in, is_host}
use Rattle.rx_elem.specs.Compare.{Above, Change, compare, compare_in, above_children, above_fallback, pasts, changes, changes_in}
use Rattle.rx_forest.specs.HostOps.{placed_in, placed_hosts}
use Rattle.rx_meaning.specs.Outcome.{caught_anew, hides_shown}
use Rattle.rx_pruned.specs.Pruned.{was}
use Rattle.prune_laws.specs.Present.{HasNoNull, AllHaveNoNull}
use Rattle.prune_laws.proofs.SelfPasts.{itself, unmoved, pasts_unmoved}

-- changes that place no host, catch nothing and hide nothing anew
pub record AreStill (cs : List Change) : Type 0 where
  pub places : placed_hosts cs ≡ []
  pub catches : filter_map caught_anew cs ≡ []
  pub hides : filter hides_shown cs ≡ []

none_still : AreStill []
none_still = record { places = refl; catches = refl; hides = refl }

both_still : (cs ds : List Change) → AreStill cs → AreStill ds → AreStill (cs ++ ds)
both_still cs ds h k = record {
  places = rw (filter_map-append placed_in cs ds, h.places, k.places) refl;
  catches = rw (filter_map-append caught_anew cs ds, h.catches, k.catches) refl;
  hides = rw (filter-append hides_shown cs ds, h.hides, k.hides) refl;
}

one_still : (c : Change) (cs : List Change) → c.displaced ≡ false → caught_anew c ≡ None → hides_shown c ≡ false → AreStill cs → AreStill (c ∷ cs)
one_still c cs h g k l = record { places = rw (h, l.places) refl; catches = rw (g, l.catches) refl; hides = rw (k, l.hides) refl }

caught_before : (x : Option ℤ) → (if is_some x then None else x) ≡ None
caught_before None = refl
caught_before (Some x) = refl

hidden_before : (visible : Bool) (b : Option BoundaryState) → option_map_or (would_hide b visible) b false ≡ false
hidden_before visible None = refl
hidden_before true (Some Shown) = refl
hidden_before false (Some Shown) = refl
hidden_before true (Some (Hidden waits)) = refl
hidden_before false (Some (Hidden waits)) = refl

not_displaced : (a : Above) (n : Node) → a.displaced ≡ false → (itself a n).displaced ≡ false
not_displaced a n h = rw h refl

not_below : (b d : Bool) → d ≡ false → cond b false d ≡ false
not_below true d h = refl
not_below false d h = h

mutual
  -- A node that was itself and stayed, below what isn't displaced, places nothing, catches nothing and hides nothing anew.
  pub self_still : (a : Above) → a.displaced ≡ false → (n : Node) → HasNoNull n → AreStill (changes (compare a (was n false) n))
  self_still a h (node e m ns fs) present =
      let c : Change = itself a (node e m ns fs) in
      let stays : c.displaced ≡ false = not_displaced a (node e m ns fs) h in
      let below : AreStill (changes_in (compare_in (above_children c) (pasts ns (elements_in ns)) ns)) =
      rw (pasts_unmoved ns present.1) (all_self_still (above_children c) (not_below (is_host m) c.displaced stays) ns present.1) in
      let beside : AreStill (changes_in (compare_in (above_fallback c) (pasts fs (elements_in fs)) fs)) =
      rw (pasts_unmoved fs present.2) (all_self_still (above_fallback c) stays fs present.2) in
      one_still c (changes_in (compare_in (above_children c) (pasts ns (elements_in ns)) ns) ++ changes_in (compare_in (above_fallback c) (pasts fs (elements_in fs)) fs))
      stays (caught_before (caught_in m)) (hidden_before c.was_visible (boundary_in m))
      (both_still (changes_in (compare_in (above_children c) (pasts ns (elements_in ns)) ns)) (changes_in (compare_in (above_fallback c) (pasts fs (elements_in fs)) fs)) below beside)

  -- Children that were themselves and stayed, below what isn't displaced, place nothing, catch nothing and hide nothing anew.
  pub all_self_still : (a : Above) → a.displaced ≡ false → (ns : Forest) → AllHaveNoNull ns → AreStill (changes_in (compare_in a (unmoved ns) ns))
  all_self_still a h none present = none_still
  all_self_still a h (vacant ns) present = all_self_still a h ns present
  all_self_still a h (child n ns) present =
      both_still (changes (compare a (was n false) n)) (changes_in (compare_in a (unmoved ns) ns)) (self_still a h n present.0) (all_self_still a h ns present.1)
