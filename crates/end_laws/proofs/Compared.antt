-- A trimmed tree beside a trimmed old one: the same comparison, with each of its nodes trimmed.
use Rattle.std.specs.Prelude.{◌≡◌, Bool, false, List, [], ◌∷◌, ◌++◌, map, Option, Some, None}
use Rattle.std.proofs.Common.{refl, sym, ap, ◌∙◌}
use Rattle.std.proofs.lemmas.List.{map-append}
use Rattle.rx_elem.specs.Trees.{Node, node, Forest, none, vacant, child, elements_in}
use Rattle.rx_elem.specs.Compare.{Past, pasts, Change, Above, above_root, above_children, above_fallback, change_of, Gone, gone_nodes, gone_from, Compared, compared, AllCompared, no_comparisons, comparison, compare, compare_in, compare_trees, changes, changes_in}
use Rattle.end_laws.specs.Trimmed.{vacant_before, trimmed, trimmed_in, trimmed_if}
use Rattle.end_laws.proofs.Pasts.{gone_same, trimmed_past, pasts_trimmed, more_pasts}

-- a change with its nodes trimmed
abbrev pub trimmed_change : Change → Change
trimmed_change c = record { old = trimmed_if c.old; new = trimmed c.new; was_visible = c.was_visible; around = c.around; displaced = c.displaced }

-- what is gone, trimmed
abbrev pub trimmed_gone : Gone → Gone
trimmed_gone g = record { node = trimmed g.node; was_visible = g.was_visible }

-- a comparison with all its nodes trimmed
abbrev mutual
  pub trimmed_compared : Compared → Compared
  trimmed_compared (compared c gone ns fs) = compared (trimmed_change c) (map trimmed_gone gone) (trimmed_all ns) (trimmed_all fs)

  pub trimmed_all : AllCompared → AllCompared
  trimmed_all no_comparisons = no_comparisons
  trimmed_all (comparison c cs) = comparison (trimmed_compared c) (trimmed_all cs)

-- What is gone

gone_all : (visible : Bool) (ns : List Node)
    → map (λ n. record { node = n; was_visible = visible }) (map trimmed ns) ≡ map trimmed_gone (map (λ n. record { node = n; was_visible = visible }) ns)
gone_all visible [] = refl
gone_all visible (n ∷ ns) = ap (λ l. record { node = trimmed n; was_visible = visible } ∷ l) (gone_all visible ns)

gone_from_same : (visible : Bool) (old new : Forest) → gone_from visible (trimmed_in old) (trimmed_in new) ≡ map trimmed_gone (gone_from visible old new)
gone_from_same visible old new =
    ap (map (λ n. record { node = n; was_visible = visible })) (gone_same old new) ∙ gone_all visible (gone_nodes old (elements_in new))

gone_both : (visible below : Bool) (os ns ps fs : Forest)
    → gone_from visible (trimmed_in os) (trimmed_in ns) ++ gone_from below (trimmed_in ps) (trimmed_in fs)
    ≡ map trimmed_gone (gone_from visible os ns ++ gone_from below ps fs)
gone_both visible below os ns ps fs =
    rw (gone_from_same visible os ns, gone_from_same below ps fs, map-append trimmed_gone (gone_from visible os ns) (gone_from below ps fs)) refl

-- What is compared

compared_before : (a : Above) (ps : List Past) (ns : Forest) → compare_in a ps (vacant_before ns) ≡ compare_in a ps (vacant ns)
compared_before a [] none = refl
compared_before a (p ∷ ps) none = refl
compared_before a ps (vacant ns) = refl
compared_before a ps (child n ns) = refl

-- if the children are compared alike with any pasts, they are with those of the old children
list_same : (a : Above) (old new : Forest)
    → ((ps : List Past) → compare_in a (map trimmed_past ps) (trimmed_in new) ≡ trimmed_all (compare_in a ps new))
    → compare_in a (pasts (trimmed_in old) (elements_in (trimmed_in new))) (trimmed_in new) ≡ trimmed_all (compare_in a (pasts old (elements_in new)) new)
list_same a old new same =
    let (ps, k, d, e) = pasts_trimmed old new in
    ap (λ qs. compare_in a qs (trimmed_in new)) e
    ∙ (same ps ∙ ap trimmed_all (sym (more_pasts a ps k new) ∙ ap (λ qs. compare_in a qs new) (sym d)))

mutual
  pub compare_same : (a : Above) (old : Option Node) (moved : Bool) (n : Node)
      → compare a (record { old = trimmed_if old; moved = moved }) (trimmed n) ≡ trimmed_compared (compare a (record { old = old; moved = moved }) n)
  compare_same a None moved (node e m ns fs) =
      let c = change_of a (record { old = None; moved = moved }) (node e m ns fs) in
      rw (
        gone_both (above_children c).was_visible c.was_visible none ns none fs,
        list_same (above_children c) none ns (λ qs. compare_in_same (above_children c) qs ns),
        list_same (above_fallback c) none fs (λ qs. compare_in_same (above_fallback c) qs fs),
      ) refl
  compare_same a (Some (node d l os ps)) moved (node e m ns fs) =
      let c = change_of a (record { old = Some (node d l os ps); moved = moved }) (node e m ns fs) in
      rw (
        gone_both (above_children c).was_visible c.was_visible os ns ps fs,
        list_same (above_children c) os ns (λ qs. compare_in_same (above_children c) qs ns),
        list_same (above_fallback c) ps fs (λ qs. compare_in_same (above_fallback c) qs fs),
      ) refl

  compare_in_same : (a : Above) (ps : List Past) (ns : Forest) → compare_in a (map trimmed_past ps) (trimmed_in ns) ≡ trimmed_all (compare_in a ps ns)
  compare_in_same a ps none = refl
  compare_in_same a [] (vacant ns) = compared_before a [] (trimmed_in ns) ∙ compare_in_same a [] ns
  compare_in_same a (p ∷ ps) (vacant ns) = compared_before a (trimmed_past p ∷ map trimmed_past ps) (trimmed_in ns) ∙ compare_in_same a ps ns
  compare_in_same a [] (child n ns) = rw (compare_same a None false n, compare_in_same a [] ns) refl
  compare_in_same a (p ∷ ps) (child n ns) = rw (compare_same a p.old p.moved n, compare_in_same a ps ns) refl

-- The trimmed trees are compared as the trees are.
pub trees_same : (old : Option Node) (new : Node) → compare_trees (trimmed_if old) (trimmed new) ≡ trimmed_compared (compare_trees old new)
trees_same old new = compare_same above_root old false new

mutual
  pub changes_same : (c : Compared) → changes (trimmed_compared c) ≡ map trimmed_change (changes c)
  changes_same (compared c gone ns fs) =
      rw (changes_in_same ns, changes_in_same fs, map-append trimmed_change (changes_in ns) (changes_in fs)) refl

  changes_in_same : (cs : AllCompared) → changes_in (trimmed_all cs) ≡ map trimmed_change (changes_in cs)
  changes_in_same no_comparisons = refl
  changes_in_same (comparison c cs) =
      rw (changes_same c, changes_in_same cs, map-append trimmed_change (changes c) (changes_in cs)) refl
