-- How many places a render in progress has at once.
use Rattle.std.specs.Prelude.{ℕ, ◌+◌, cond, List, [], ◌∷◌, Option, Some, length}
use Rattle.rx_elem.specs.Elements.{Element}
use Rattle.rx_elem.specs.Trees.{Node, Forest, forest, children_if}
use Rattle.rx_elem.specs.Spots.{at_root, spots_in, node_count}
use Rattle.rx_meaning.specs.Fresh.{empty, made, waits, throws}
use Rattle.rx_meaning.specs.Cursor.{Open, around, trying, falling, guarding, Frame, Cursor, at_place, at_end, ended, is_null}

-- how many nodes the trees of a list have
abbrev pub nodes_in : Forest → ℕ
nodes_in ns = length (spots_in at_root ns)

-- how many elements of a list are still to begin: of null there is no node
abbrev pub to_begin : List (Element × Option Node) → ℕ
to_begin [] = 0
to_begin (x ∷ xs) = cond (is_null x.0) 0 1 + to_begin xs

-- an open node, with the nodes that it keeps if it opens its fallback
abbrev pub open_places : Open → ℕ
open_places (around e m) = 1
open_places (trying e old f) = 1
open_places (falling e old a) = 1 + nodes_in (children_if old)
open_places (guarding e f) = 1

-- the nodes that are open around a place, and the other places of their lists
abbrev pub places_around : List Frame → ℕ
places_around [] = 0
places_around (f ∷ fs) = open_places f.node + (nodes_in (forest f.done) + (to_begin f.rest + places_around fs))

-- the places that a render in progress has: those of the nodes that are done or open, of what boundaries keep, and of the elements that are still to begin
abbrev pub places_in : Cursor → ℕ
places_in (at_place levels fs cs e old) = to_begin ((e, old) ∷ []) + places_around fs
places_in (at_end levels fs o done) = open_places o + (nodes_in (forest done) + places_around fs)
places_in (ended empty) = 0
places_in (ended (made n)) = node_count (Some n)
places_in (ended (waits a)) = 0
places_in (ended (throws x)) = 0
