-- What surrounds a comparison has no part in what it says.
use Rattle.std.specs.Prelude.{◌≡◌, Bool, true, false, List, [], ◌∷◌, ◌++◌, cond, filter, map, refl}
use Rattle.std.proofs.Common.{ap}
use Rattle.std.specs.List.{cons_option}
use Rattle.std.proofs.lemmas.List.Elements.{filter_map-append}
use Rattle.rx_elem.specs.Trees.{Node, node, Forest, none, vacant, child, awaits_in, children_if, fallback_if, elements_in, mark_of}
use Rattle.rx_elem.specs.Spots.{Around}
use Rattle.rx_elem.specs.Compare.{Above, AllCompared, Change, Past, above_children, above_fallback, change_of, changes_in, compare, compare_in, no_comparisons, no_past, pasts}
use Rattle.rx_forest.specs.HostOps.{placed_in}
use Rattle.rx_meaning.specs.Outcome.{caught_anew, hides_shown}
use Rattle.prune_laws.proofs.Alike.{AreAlike, IsAlike, all_alike_themselves, hidden_awaits, hidden_awaits-append, more_alike}

-- what is above, with other surroundings
abbrev pub above_in : Around → Above → Above
above_in r a = record a { around = r }

-- one change more before two lists of changes that hide the same anew
hidden_alike : (c d : Change) (cs ds : List Change) → c.new ≡ d.new → hides_shown c ≡ hides_shown d → hidden_awaits cs ≡ hidden_awaits ds → hidden_awaits (c ∷ cs) ≡ hidden_awaits (d ∷ ds)
hidden_alike c d cs ds same alike rest = rw alike (go (hides_shown d))
  where
    go : (b : Bool) → map (λ x. awaits_in (mark_of x.new)) (cond b (c ∷ filter hides_shown cs) (filter hides_shown cs)) ≡ map (λ x. awaits_in (mark_of x.new)) (cond b (d ∷ filter hides_shown ds) (filter hides_shown ds))
    go true = rw (ap (λ n. awaits_in (mark_of n)) same, rest) refl
    go false = rest

mutual
  -- A node is compared alike wherever it stands.
  pub alike_anywhere : (r : Around) (a : Above) (p : Past) (n : Node) → IsAlike (compare (above_in r a) p n) (compare a p n)
  alike_anywhere r a p (node e m ns fs) =
      let c : Change = change_of a p (node e m ns fs) in
      let d : Change = change_of (above_in r a) p (node e m ns fs) in
      let ones : AllCompared = compare_in (above_children d) (pasts (children_if p.old) (elements_in ns)) ns in
      let others : AllCompared = compare_in (above_fallback d) (pasts (fallback_if p.old) (elements_in fs)) fs in
      let kids : AllCompared = compare_in (above_children c) (pasts (children_if p.old) (elements_in ns)) ns in
      let beside : AllCompared = compare_in (above_fallback c) (pasts (fallback_if p.old) (elements_in fs)) fs in
      let below : AreAlike ones kids = all_alike_anywhere (above_children d).around (above_children c) (pasts (children_if p.old) (elements_in ns)) ns in
      let apart : AreAlike others beside = all_alike_anywhere r (above_fallback c) (pasts (fallback_if p.old) (elements_in fs)) fs in record {
        destroys = λ phase. rw (below.destroys phase, apart.destroys phase) refl;
        creates = λ phase. rw (below.creates phase, apart.creates phase) refl;
        places =
            ap (cons_option (placed_in c))
            (rw (filter_map-append placed_in (changes_in ones) (changes_in others), filter_map-append placed_in (changes_in kids) (changes_in beside), below.places, apart.places) refl);
        catches =
            ap (cons_option (caught_anew c))
            (rw (filter_map-append caught_anew (changes_in ones) (changes_in others), filter_map-append caught_anew (changes_in kids) (changes_in beside), below.catches, apart.catches) refl);
        hides = hidden_alike d c (changes_in ones ++ changes_in others) (changes_in kids ++ changes_in beside) refl refl
            (rw (hidden_awaits-append (changes_in ones) (changes_in others), hidden_awaits-append (changes_in kids) (changes_in beside), below.hides, apart.hides) refl);
      }

  -- So are the children of a list.
  pub all_alike_anywhere : (r : Around) (a : Above) (ps : List Past) (ns : Forest) → AreAlike (compare_in (above_in r a) ps ns) (compare_in a ps ns)
  all_alike_anywhere r a ps none = all_alike_themselves no_comparisons
  all_alike_anywhere r a [] (vacant ns) = all_alike_anywhere r a [] ns
  all_alike_anywhere r a (p ∷ ps) (vacant ns) = all_alike_anywhere r a ps ns
  all_alike_anywhere r a [] (child n ns) =
      more_alike (compare (above_in r a) no_past n) (compare a no_past n) (compare_in (above_in r a) [] ns) (compare_in a [] ns) (alike_anywhere r a no_past n)
      (all_alike_anywhere r a [] ns)
  all_alike_anywhere r a (p ∷ ps) (child n ns) =
      more_alike (compare (above_in r a) p n) (compare a p n) (compare_in (above_in r a) ps ns) (compare_in a ps ns) (alike_anywhere r a p n) (all_alike_anywhere r a ps ns)
