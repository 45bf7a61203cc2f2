-- A tree without a hidden boundary hides nothing anew, so its render is committed; and nothing in it waits.
use Rattle.std.specs.Prelude.{◌≡◌, false, ◌||◌, List, [], ◌∷◌, Option, refl, filter}
use Rattle.std.proofs.lemmas.Bool.{or_parts}
use Rattle.std.proofs.lemmas.List.Elements.{filter-append}
use Rattle.rx_lane.specs.Lanes.{Lanes}
use Rattle.rx_elem.specs.Trees.{Node, node, Forest, none, vacant, child, children_if, fallback_if, elements_in, is_hidden}
use Rattle.rx_elem.specs.Compare.{Above, Past, Change, no_past, change_of, compare, compare_in, above_root, above_children, above_fallback, pasts, changes, changes_in}
use Rattle.rx_node.specs.Hides.{hides_within, hides_in}
use Rattle.rx_base.specs.declared.cut.Cut.{Cut}
use Rattle.rx_elem.specs.Spots.{Around, at_root, around_children, spots, spots_in, spot_mark}
use Rattle.rx_queue.specs.Journal.{Journal}
use Rattle.rx_meaning.specs.Outcome.{awaits_resolved, commit, hides_shown, outcome}
use Rattle.prune_laws.proofs.Alike.{shown_by}

mutual
  none_hides : (a : Above) (p : Past) (n : Node) → hides_within n ≡ false → filter hides_shown (changes (compare a p n)) ≡ []
  none_hides a p (node e m ns fs) h =
      let c : Change = change_of a p (node e m ns fs) in
      let own = or_parts (is_hidden m) (hides_in ns || hides_in fs) h in
      let lists = or_parts (hides_in ns) (hides_in fs) own.1 in
      let shown : hides_shown c ≡ false = shown_by c m refl own.0 in
      let kids = none_hide (above_children c) (pasts (children_if p.old) (elements_in ns)) ns lists.0 in
      let others = none_hide (above_fallback c) (pasts (fallback_if p.old) (elements_in fs)) fs lists.1 in
      rw (
        shown,
        filter-append hides_shown (changes_in (compare_in (above_children c) (pasts (children_if p.old) (elements_in ns)) ns))
            (changes_in (compare_in (above_fallback c) (pasts (fallback_if p.old) (elements_in fs)) fs)),
        kids,
        others,
      ) refl

  none_hide : (a : Above) (ps : List Past) (ns : Forest) → hides_in ns ≡ false → filter hides_shown (changes_in (compare_in a ps ns)) ≡ []
  none_hide a ps none h = refl
  none_hide a [] (vacant ns) h = none_hide a [] ns h
  none_hide a (p ∷ ps) (vacant ns) h = none_hide a ps ns h
  none_hide a [] (child n ns) h =
      let parts = or_parts (hides_within n) (hides_in ns) h in
      rw (filter-append hides_shown (changes (compare a no_past n)) (changes_in (compare_in a [] ns)), none_hides a no_past n parts.0, none_hide a [] ns parts.1) refl
  none_hide a (p ∷ ps) (child n ns) h =
      let parts = or_parts (hides_within n) (hides_in ns) h in
      rw (filter-append hides_shown (changes (compare a p n)) (changes_in (compare_in a ps ns)), none_hides a p n parts.0, none_hide a ps ns parts.1) refl

-- what hides nothing is committed
pub committed_if_none_hides : (lanes : Lanes) (old : Option Node) (new : Node) → hides_within new ≡ false → commit new ≡ outcome lanes old new
committed_if_none_hides lanes old new h = rw (none_hides above_root (record { old = old; moved = false }) new h) refl

mutual
  none_hidden : (a : Around) (n : Node) → hides_within n ≡ false → filter (λ s. is_hidden (spot_mark s)) (spots a n) ≡ []
  none_hidden a (node e m ns fs) h =
      let own = or_parts (is_hidden m) (hides_in ns || hides_in fs) h in
      let lists = or_parts (hides_in ns) (hides_in fs) own.1 in
      rw (
        own.0,
        filter-append (λ s. is_hidden (spot_mark s)) (spots_in (around_children a m) ns) (spots_in a fs),
        none_hidden_in (around_children a m) ns lists.0,
        none_hidden_in a fs lists.1,
      ) refl

  none_hidden_in : (a : Around) (ns : Forest) → hides_in ns ≡ false → filter (λ s. is_hidden (spot_mark s)) (spots_in a ns) ≡ []
  none_hidden_in a none h = refl
  none_hidden_in a (vacant ns) h = none_hidden_in a ns h
  none_hidden_in a (child n ns) h =
      let parts = or_parts (hides_within n) (hides_in ns) h in
      rw (filter-append (λ s. is_hidden (spot_mark s)) (spots a n) (spots_in a ns), none_hidden a n parts.0, none_hidden_in a ns parts.1) refl

-- what hides nothing waits for nothing
pub none_awaits : (lanes : Lanes) (cut : Cut) (j : Journal) (new : Node) → hides_within new ≡ false → awaits_resolved lanes cut j new ≡ false
none_awaits lanes cut j new h = rw (none_hidden at_root new h) refl
