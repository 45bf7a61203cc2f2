-- Comparisons that are alike: they log the same, place the same hosts, catch the same, and hide anew what waits for the same.
use Rattle.std.specs.Prelude.{◌≡◌, Bool, true, false, List, ◌++◌, Option, Some, None, filter, filter_map, map, refl}
use Rattle.std.specs.List.{cons_option}
use Rattle.std.proofs.Common.{ap, sym, ◌∙◌}
use Rattle.std.proofs.lemmas.List.{map-append, append-nil}
use Rattle.std.proofs.lemmas.List.Elements.{filter-append, filter_map-append}
use Rattle.rx_base.specs.Awaits.{Awaits}
use Rattle.rx_susp.specs.declared.boundary.BoundaryState.{BoundaryState}
use Rattle.rx_susp.specs.declared.boundary.BoundaryState.TheVariants.{Hidden, Shown}
use Rattle.rx_susp.specs.Boundary.{would_hide}
use Rattle.rx_elem.specs.Elements.{Element}
use Rattle.rx_elem.specs.Trees.{Mark, of_instance, of_host, of_boundary, of_catcher, plain, node, Forest, none, elements_in, mark_of, awaits_in, is_hidden}
use Rattle.rx_elem.specs.Compare.{Above, Change, AllCompared, Compared, comparison, compare, compare_in, change_of, above_children, pasts, gone_nodes, changes, changes_in}
use Rattle.rx_effect.specs.EffectLog.{Phase, destroyed, destroyed_all, created, created_all}
use Rattle.rx_forest.specs.HostOps.{placed_in, placed_hosts}
use Rattle.rx_meaning.specs.Outcome.{caught_anew, hides_shown, old_state}
use Rattle.rx_pruned.specs.Pruned.{was, GoesOn}

-- what the boundaries wait for that these changes hide anew
abbrev pub hidden_awaits : List Change → List Awaits
hidden_awaits cs = map (λ c. awaits_in (mark_of c.new)) (filter hides_shown cs)

-- two comparisons are alike
pub record IsAlike (c d : Compared) : Type 0 where
  pub destroys : (phase : Phase) → destroyed phase c ≡ destroyed phase d
  pub creates : (phase : Phase) → created phase c ≡ created phase d
  pub places : placed_hosts (changes c) ≡ placed_hosts (changes d)
  pub catches : filter_map caught_anew (changes c) ≡ filter_map caught_anew (changes d)
  pub hides : hidden_awaits (changes c) ≡ hidden_awaits (changes d)

-- the comparisons of two lists are alike
pub record AreAlike (cs ds : AllCompared) : Type 0 where
  pub destroys : (phase : Phase) → destroyed_all phase cs ≡ destroyed_all phase ds
  pub creates : (phase : Phase) → created_all phase cs ≡ created_all phase ds
  pub places : placed_hosts (changes_in cs) ≡ placed_hosts (changes_in ds)
  pub catches : filter_map caught_anew (changes_in cs) ≡ filter_map caught_anew (changes_in ds)
  pub hides : hidden_awaits (changes_in cs) ≡ hidden_awaits (changes_in ds)

pub alike_itself : (c : Compared) → IsAlike c c
alike_itself c = record { destroys = λ phase. refl; creates = λ phase. refl; places = refl; catches = refl; hides = refl }

pub all_alike_themselves : (cs : AllCompared) → AreAlike cs cs
all_alike_themselves cs = record { destroys = λ phase. refl; creates = λ phase. refl; places = refl; catches = refl; hides = refl }

-- lists are alike the other way round, and if both are alike to a third
pub alike_back : {cs ds : AllCompared} → AreAlike cs ds → AreAlike ds cs
alike_back h = record {
  destroys = λ phase. sym (h.destroys phase);
  creates = λ phase. sym (h.creates phase);
  places = sym h.places;
  catches = sym h.catches;
  hides = sym h.hides;
}

pub alike_both : {bs cs ds : AllCompared} → AreAlike bs cs → AreAlike cs ds → AreAlike bs ds
alike_both h k = record {
  destroys = λ phase. h.destroys phase ∙ k.destroys phase;
  creates = λ phase. h.creates phase ∙ k.creates phase;
  places = h.places ∙ k.places;
  catches = h.catches ∙ k.catches;
  hides = h.hides ∙ k.hides;
}

pub hidden_awaits-append : (cs ds : List Change) → hidden_awaits (cs ++ ds) ≡ hidden_awaits cs ++ hidden_awaits ds
hidden_awaits-append cs ds =
    ap (map (λ c. awaits_in (mark_of c.new))) (filter-append hides_shown cs ds) ∙ map-append (λ c. awaits_in (mark_of c.new)) (filter hides_shown cs) (filter hides_shown ds)

pub more_alike : (c d : Compared) (cs ds : AllCompared) → IsAlike c d → AreAlike cs ds → AreAlike (comparison c cs) (comparison d ds)
more_alike c d cs ds h k = record {
  destroys = λ phase. rw (h.destroys phase, k.destroys phase) refl;
  creates = λ phase. rw (h.creates phase, k.creates phase) refl;
  places = rw (filter_map-append placed_in (changes c) (changes_in cs), filter_map-append placed_in (changes d) (changes_in ds), h.places, k.places) refl;
  catches = rw (filter_map-append caught_anew (changes c) (changes_in cs), filter_map-append caught_anew (changes d) (changes_in ds), h.catches, k.catches) refl;
  hides = rw (hidden_awaits-append (changes c) (changes_in cs), hidden_awaits-append (changes d) (changes_in ds), h.hides, k.hides) refl;
}

never_hides : (old : Option BoundaryState) (visible : Bool) → would_hide old visible Shown ≡ false
never_hides None visible = refl
never_hides (Some Shown) true = refl
never_hides (Some Shown) false = refl
never_hides (Some (Hidden waits)) true = refl
never_hides (Some (Hidden waits)) false = refl

pub shown_by : (c : Change) (m : Mark) → mark_of c.new ≡ m → is_hidden m ≡ false → hides_shown c ≡ false
shown_by c (of_instance i) e h = rw e refl
shown_by c (of_host n) e h = rw e refl
shown_by c (of_boundary Shown) e h = rw e (never_hides (old_state c) c.was_visible)
shown_by c (of_boundary (Hidden waits)) e h = absurd (cc h)
shown_by c (of_catcher z) e h = rw e refl
shown_by c plain e h = rw e refl

-- A node is alike if its children are and the same of them are gone.
module _ (a : Above) (moved : Bool) (e f : Element) (m w : Mark) (os ns ps qs : Forest) where
  -- the change of the whole node
  abbrev pub whole_change : Change
  whole_change = change_of a (was (node e m os none) moved) (node f w ns none)

  pub node_alike : GoesOn m w → gone_nodes ps (elements_in qs) ≡ gone_nodes os (elements_in ns)
      → AreAlike (compare_in (above_children whole_change) (pasts ps (elements_in qs)) qs) (compare_in (above_children whole_change) (pasts os (elements_in ns)) ns)
      → IsAlike (compare a (was (node e m ps none) moved) (node f w qs none)) (compare a (was (node e m os none) moved) (node f w ns none))
  node_alike on gone kids =
      let pruned_kids : AllCompared = compare_in (above_children whole_change) (pasts ps (elements_in qs)) qs in
      let whole_kids : AllCompared = compare_in (above_children whole_change) (pasts os (elements_in ns)) ns in record {
        destroys = λ phase. rw (gone, kids.destroys phase, on.new_shown) refl;
        creates = λ phase. rw (kids.creates phase, on.new_shown) refl;
        places = ap (cons_option (placed_in whole_change)) (rw (append-nil (changes_in pruned_kids), append-nil (changes_in whole_kids)) kids.places);
        catches = ap (cons_option (caught_anew whole_change)) (rw (append-nil (changes_in pruned_kids), append-nil (changes_in whole_kids)) kids.catches);
        hides =
            rw (shown_by whole_change w refl on.new_shown)
            (rw (append-nil (changes_in pruned_kids), append-nil (changes_in whole_kids)) kids.hides);
      }
