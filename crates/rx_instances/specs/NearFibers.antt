-- The nearest instances in a list of fibers, and the fiber of what a path leads to.
use Rattle.std.specs.Prelude.{◌≡◌, ℕ, ◌-◌, List, [], ◌∷◌, ◌++◌, Option, Some, None, bytes_eq, if◌then◌else◌, length, option_map, slice_get}
use Rattle.rx_base.specs.Values.{Name}
use Rattle.rx_ast.specs.Syntax.{Program}
use Rattle.rx_step.specs.Steps.{Path}
use Rattle.rx_elem.specs.Trees.{Instance, Node, instance_in}
use Rattle.rx_lists.specs.Shapes.{Shape, none, fiber}
use Rattle.rx_fiber.specs.Fibers.{Stage, Fiber, waiting, begun, trying, guarding, fallback}
use Rattle.rx_fiber.specs.Reading.{IsOld}
use Rattle.rx_model.specs.State.{name_of}
use Rattle.rx_instances.specs.Nearest.{Told, node_at, told}
use Rattle.rx_instances.specs.declared.find.Found.{Found}

-- the instance of which a fiber of this stage is, if it is of one
abbrev pub instance_at : Stage → Option Instance
instance_at (waiting c) = None
instance_at (begun m) = instance_in m
instance_at (trying c) = None
instance_at guarding = None
instance_at (fallback a) = None

-- a fiber itself if it is of an instance of a component of this name, none if it is of another instance, and else those below it
abbrev pub itself_named : Program → Name → ℕ → Option Instance → (below : List ℕ) → List ℕ
itself_named p name id None below = below
itself_named p name id (Some i) below = if bytes_eq (name_of p i.component) name then id ∷ [] else []

-- the fibers of the nearest instances of a component of this name from a list on, in tree order; the fiber of a fallback comes behind that of its boundary
abbrev pub near_fibers : Program → Name → Shape Fiber → List ℕ
near_fibers p name none = []
near_fibers p name (fiber id v ks rs) = itself_named p name id (instance_at v.stage) (near_fibers p name ks) ++ near_fibers p name rs

-- the same for the first fiber of a list alone
abbrev pub near_first : Program → Name → Shape Fiber → List ℕ
near_first p name none = []
near_first p name (fiber id v ks rs) = itself_named p name id (instance_at v.stage) (near_fibers p name ks)

-- of these fibers one is found, which so many come before, or fewer are left to come before it
pub record Counts (is : List ℕ) (found : Option ℕ) (before after : ℕ) : Type 0 where
  pub found_is : found ≡ slice_get is before
  pub left_is : after ≡ before - length is

-- what is told of an instance that was found
abbrev pub told_in : Found → Told
told_in f = record { number = f.number; component = f.component }

-- an instance is found by its fiber, from its first commit on
abbrev pub found_by : ℕ → Instance → Option Found
found_by id i = option_map (λ n. record { number = n; component = i.component; fiber = id }) i.number

-- What was found is told of the node that a path leads to, and its fiber is the current one of that node.
pub record IsFoundAt (p : Program) (tree : Option Node) (path : Path) (current : Shape Fiber) (f : Found) : Type 0 where
  pub node : Node
  pub leads : node_at p tree path ≡ Some node
  pub fiber : IsOld current (Some f.fiber) (Some node)
  pub is_told : told node ≡ Some (told_in f)
