-- The lists of a node, and what is gone of them.
use Rattle.std.proofs.Common.{◌≡◌, ℕ, ◌<◌, ◌≤◌, List, [], ◌∷◌, length, get_or, Option, Some, None, refl, ap, sym, ◌∙◌, map, slice_get}
use Rattle.std.proofs.lemmas.Option.{slice_get_read, slice_get_past}
use Rattle.std.specs.Option.{option_flatten}
use Rattle.rx_elem.specs.Trees.{Node, forest, elements_in, element_of}
use Rattle.rx_elem.specs.Elements as elements
use Rattle.rx_elem.specs.Compare.{node_at}
use Rattle.rx_node.proofs.Listing.{places-forest}
use Rattle.rx_compare.specs.Matched.{element_at}

-- the node at a place, by the list
node_at-list : (ns : List (Option Node)) (place : ℕ) → option_flatten (slice_get ns place) ≡ node_at (forest ns) place
node_at-list ns place = ap (λ xs. option_flatten (slice_get xs place)) (places-forest ns)

-- within a list it is the one that stands there
pub node_at-within : (ns : List (Option Node)) (place : ℕ) (x : Option Node) → place < length ns → x ≡ get_or ns place x → x ≡ node_at (forest ns) place
node_at-within ns place x h e = ap option_flatten (sym (slice_get_read ns (length ns) place x refl h e)) ∙ node_at-list ns place

-- behind the end there is none
pub node_at-past : (ns : List (Option Node)) (place : ℕ) → length ns ≤ place → None ≡ node_at (forest ns) place
node_at-past ns place h = ap option_flatten (sym (slice_get_past ns place h)) ∙ node_at-list ns place

-- the elements of a list, place by place
pub map-element_at : (ns : List (Option Node)) → map element_at ns ≡ elements_in (forest ns)
map-element_at [] = refl
map-element_at (None ∷ ns) = ap (λ es. elements.null ∷ es) (map-element_at ns)
map-element_at (Some n ∷ ns) = ap (λ es. element_of n ∷ es) (map-element_at ns)
