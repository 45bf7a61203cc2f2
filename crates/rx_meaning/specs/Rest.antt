-- The rest of a render: what the place that it has come to, the siblings after it and the nodes around it give.
use Rattle.std.specs.Prelude.{ℕ, suc, List, [], ◌∷◌, Option}
use Rattle.rx_elem.specs.Trees.{Node}
use Rattle.rx_meaning.specs.Fresh.{Sight, Contexts, Renders, Place, made, Places, one_waits, before, over, over_boundary, over_catcher, render_all, rendered, render_part}
use Rattle.rx_meaning.specs.Cursor.{Open, around, trying, falling, guarding, Frame, Cursor, at_place, at_end, ended, given_by, finished}

-- the results of places that are done, before those of the places that follow
abbrev pub onto : List (Option Node) → Places → Places
onto [] rest = rest
onto (n ∷ ns) rest = before (given_by n) (onto ns rest)

-- an open node, from what its list gives
abbrev pub from_open : (Contexts → Renders) → Open → Places → Place
from_open below (around e m) ps = over e m ps
from_open below (trying e old f) ps = over_boundary e old ps (render_part below f)
from_open below (falling e old a) ps = over_boundary e old (one_waits a) ps
from_open below (guarding e f) ps = over_catcher e ps (render_part below f)

-- a frame's list, from what the place gives that it has come to
abbrev pub list_from : (Contexts → Renders) → Frame → Place → Places
list_from below f p = onto f.done (before p (render_all (below f.contexts) f.rest))

-- the whole tree, from what a place gives that has so many levels
abbrev pub tree_from : ℕ → Sight → List Frame → Place → Place
tree_from levels s [] p = p
tree_from levels s (f ∷ fs) p = tree_from (suc levels) s fs (from_open (rendered levels s) f.node (list_from (rendered levels s) f p))

-- what a render gives once it is done
unfoldable pub gives : Sight → Cursor → Place
gives s (at_place levels fs cs e old) = tree_from levels s fs (rendered levels s cs e old)
gives s (at_end levels fs o done) = tree_from levels s fs (made (finished o done))
gives s (ended p) = p
