-- Which places the fibers of a list stand for, whatever they hold.
use Rattle.std.specs.Prelude.{ℕ, ◌+◌, ◌-◌, Bool, true, false, List, [], ◌∷◌, ◌++◌, length, Option, None, Some, if◌then◌else◌}
use Rattle.rx_elem.specs.Trees.{Mark, Node, node, Forest, forest, shows_fallback}
use Rattle.rx_elem.specs.Trees as trees
use Rattle.rx_lists.specs.Shapes.{Shape, none, fiber}
use Rattle.rx_fiber.specs.Fibers.{Stage, Fiber, waiting, begun, trying, guarding, fallback}
use Rattle.rx_fiber.specs.OldLists.{is_fallback, filled}

-- the mark of the node that a fiber of this stage stands for, if it stands for one
abbrev pub mark_in : Stage → Option Mark
mark_in (waiting c) = None
mark_in (begun m) = Some m
mark_in (trying c) = None
mark_in guarding = None
mark_in (fallback a) = None

-- the children of a node whose fiber has these; a boundary that shows its fallback, with no fiber of that behind it, keeps none
abbrev pub primary_from : (falls : Bool) → (kids : Forest) → (behind : Option Forest) → Forest
primary_from false kids behind = kids
primary_from true kids None = trees.none
primary_from true kids (Some fs) = kids

-- the fallback of such a node
abbrev pub fallback_from : (falls : Bool) → (kids : Forest) → (behind : Option Forest) → Forest
fallback_from false kids behind = trees.none
fallback_from true kids None = kids
fallback_from true kids (Some fs) = fs

-- the node of a fiber with this mark
abbrev pub node_from : Fiber → Mark → (kids : Forest) → (behind : Option Forest) → Node
node_from v m kids behind = node v.element m (primary_from (shows_fallback m) kids behind) (fallback_from (shows_fallback m) kids behind)

-- the places up to that of a fiber, behind so many: vacant ones, and then its node's; nothing if it stands for none
abbrev pub own_places : Option Mark → (place : ℕ) → Fiber → (kids : Forest) → (behind : Option Forest) → List (Option Node)
own_places None n v kids behind = []
own_places (Some m) n v kids behind = filled (v.place - n) None ++ Some (node_from v m kids behind) ∷ []

-- the places of a list of fibers, from a place on
abbrev mutual
  pub places_in : (place : ℕ) → Shape Fiber → List (Option Node)
  places_in n none = []
  places_in n (fiber id v ks rs) =
      let own = own_places (mark_in v.stage) n v (forest (places_in 0 ks)) (fallback_behind rs) in
      own ++ places_in (n + length own) rs

  -- the fallback with whose fiber a list begins
  pub fallback_behind : Shape Fiber → Option Forest
  fallback_behind none = None
  fallback_behind (fiber id v ks rs) = if is_fallback v.stage then Some (forest (places_in 0 ks)) else None

-- the places up to that of the first fiber of a list
abbrev pub first_places : (place : ℕ) → Shape Fiber → List (Option Node)
first_places n none = []
first_places n (fiber id v ks rs) = own_places (mark_in v.stage) n v (forest (places_in 0 ks)) (fallback_behind rs)

-- the node of a fiber, if it has a mark
abbrev pub node_if : Option Mark → Fiber → (kids : Forest) → (behind : Option Forest) → Option Node
node_if None v kids behind = None
node_if (Some m) v kids behind = Some (node_from v m kids behind)

-- the node that the first fiber of a list stands for, if it stands for one
abbrev pub first_node : Shape Fiber → Option Node
first_node none = None
first_node (fiber id v ks rs) = node_if (mark_in v.stage) v (forest (places_in 0 ks)) (fallback_behind rs)
