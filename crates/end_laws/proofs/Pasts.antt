-- The old nodes of the children of a trimmed node are the old nodes, trimmed.
use Rattle.std.specs.Prelude.{◌≡◌, ℕ, zero, suc, List, [], ◌∷◌, ◌++◌, replicate, map, Option, Some, None, option_and_then}
use Rattle.std.specs.List.{zip}
use Rattle.std.proofs.Common.{refl, sym, ap, ◌∙◌}
use Rattle.rx_elem.specs.Elements.{Element}
use Rattle.rx_elem.specs.Elements as elements
use Rattle.rx_elem.specs.Identity.{old_places, moves_after}
use Rattle.rx_elem.specs.Trees.{Node, node, Forest, none, vacant, child, element_of, elements_in}
use Rattle.rx_elem.specs.Compare.{node_at, gone_nodes, Past, no_past, pasts, Above, compare, compare_in, comparison}
use Rattle.end_laws.specs.Trimmed.{vacant_before, trimmed, trimmed_in, trimmed_if}
use Rattle.end_laws.proofs.Lists.{filter_map_changed}
use Rattle.end_laws.proofs.Ends.{old_places_end, removed_places_end}

element_same : (n : Node) → element_of (trimmed n) ≡ element_of n
element_same (node e m ns fs) = refl

one_vacant : (ns : Forest) (es : List Element) (k : ℕ) → es ≡ elements_in ns ++ replicate k elements.null
    → (j : ℕ) × (elements.null ∷ es ≡ elements_in (vacant_before ns) ++ replicate j elements.null)
one_vacant none es k e = (suc k, ap (λ l. elements.null ∷ l) e)
one_vacant (vacant ns) es k e = (k, ap (λ l. elements.null ∷ l) e)
one_vacant (child n ns) es k e = (k, ap (λ l. elements.null ∷ l) e)

-- the elements of a list are those of the trimmed one, and null at the end
pub elements_end : (ns : Forest) → (k : ℕ) × (elements_in ns ≡ elements_in (trimmed_in ns) ++ replicate k elements.null)
elements_end none = (0, refl)
elements_end (vacant ns) = let (k, e) = elements_end ns in one_vacant (trimmed_in ns) (elements_in ns) k e
elements_end (child n ns) =
    let (k, e) = elements_end ns in
    (k, ap (λ l. element_of n ∷ l) e ∙ ap (λ x. x ∷ (elements_in (trimmed_in ns) ++ replicate k elements.null)) (sym (element_same n)))

vacant_at : (ns : Forest) (p : ℕ) → node_at (vacant_before ns) p ≡ node_at (vacant ns) p
vacant_at none zero = refl
vacant_at none (suc p) = refl
vacant_at (vacant ns) p = refl
vacant_at (child n ns) p = refl

-- at each place stands the node, trimmed
pub node_at_same : (ns : Forest) (p : ℕ) → node_at (trimmed_in ns) p ≡ trimmed_if (node_at ns p)
node_at_same none p = refl
node_at_same (vacant ns) zero = vacant_at (trimmed_in ns) 0
node_at_same (vacant ns) (suc p) = vacant_at (trimmed_in ns) (suc p) ∙ node_at_same ns p
node_at_same (child n ns) zero = refl
node_at_same (child n ns) (suc p) = node_at_same ns p

-- What is gone

pub gone_same : (old new : Forest)
    → gone_nodes (trimmed_in old) (elements_in (trimmed_in new)) ≡ map trimmed (gone_nodes old (elements_in new))
gone_same old new =
    let (j, d) = elements_end old in
    let (k, e) = elements_end new in
    rw (d, e, removed_places_end (elements_in (trimmed_in old)) (elements_in (trimmed_in new)) j k)
    (filter_map_changed trimmed (node_at old) (node_at (trimmed_in old)) (node_at_same old) _)

-- What each new child was

-- a past with its node trimmed
abbrev pub trimmed_past : Past → Past
trimmed_past p = record { old = trimmed_if p.old; moved = p.moved }

-- the pasts of children by their old places
abbrev pasts_at : (ℕ → Option Node) → (earlier : List ℕ) → List (Option ℕ) → List Past
pasts_at at earlier os = map (λ x. record { old = x.0; moved = x.1 }) (zip (map (option_and_then at) os) (moves_after earlier os))

pasts_end : (at : ℕ → Option Node) (earlier : List ℕ) (os : List (Option ℕ)) (k : ℕ)
    → pasts_at at earlier (os ++ replicate k None) ≡ pasts_at at earlier os ++ replicate k no_past
pasts_end at earlier [] zero = refl
pasts_end at earlier [] (suc k) = ap (λ l. no_past ∷ l) (pasts_end at earlier [] k)
pasts_end at earlier (None ∷ os) k = ap (λ l. no_past ∷ l) (pasts_end at earlier os k)
pasts_end at earlier (Some p ∷ os) k = rw (pasts_end at (p ∷ earlier) os k) refl

pasts_same : (at new_at : ℕ → Option Node) → ((p : ℕ) → new_at p ≡ trimmed_if (at p)) → (earlier : List ℕ) (os : List (Option ℕ))
    → pasts_at new_at earlier os ≡ map trimmed_past (pasts_at at earlier os)
pasts_same at new_at same earlier [] = refl
pasts_same at new_at same earlier (None ∷ os) = ap (λ l. no_past ∷ l) (pasts_same at new_at same earlier os)
pasts_same at new_at same earlier (Some p ∷ os) = rw (same p, pasts_same at new_at same (p ∷ earlier) os) refl

-- the pasts of new children are those of the trimmed ones, and no past at the end
pub pasts_trimmed : (old new : Forest) → (ps : List Past) × (k : ℕ)
    × (pasts old (elements_in new) ≡ ps ++ replicate k no_past) × (pasts (trimmed_in old) (elements_in (trimmed_in new)) ≡ map trimmed_past ps)
pasts_trimmed old new =
    let (j, d) = elements_end old in
    let (k, e) = elements_end new in
    let os = old_places (elements_in (trimmed_in old)) (elements_in (trimmed_in new)) in (
      pasts_at (node_at old) [] os,
      k,
      rw (d, e, old_places_end (elements_in (trimmed_in old)) (elements_in (trimmed_in new)) j k) (pasts_end (node_at old) [] os k),
      pasts_same (node_at old) (node_at (trimmed_in old)) (node_at_same old) [] os,
    )

-- a child without a past is new, as one whose past says so
pub more_pasts : (a : Above) (ps : List Past) (k : ℕ) (ns : Forest) → compare_in a (ps ++ replicate k no_past) ns ≡ compare_in a ps ns
more_pasts a [] zero ns = refl
more_pasts a [] (suc k) none = refl
more_pasts a [] (suc k) (vacant ns) = more_pasts a [] k ns
more_pasts a [] (suc k) (child n ns) = ap (comparison (compare a no_past n)) (more_pasts a [] k ns)
more_pasts a (p ∷ ps) k none = refl
more_pasts a (p ∷ ps) k (vacant ns) = more_pasts a ps k ns
more_pasts a (p ∷ ps) k (child n ns) = ap (comparison (compare a p n)) (more_pasts a ps k ns)
