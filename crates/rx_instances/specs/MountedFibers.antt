-- The instances of a list of fibers, each with what surrounds it.
use Rattle.std.specs.Prelude.{Bool, not, ◌&&◌, List, [], ◌++◌, Option, option_and_then, if◌then◌else◌}
use Rattle.std.specs.List.{cons_option}
use Rattle.rx_elem.specs.Spots.{Around, Mounted, around_children, mounted_as}
use Rattle.rx_elem.specs.Trees.{Instance, is_hidden}
use Rattle.rx_lists.specs.Shapes.{Shape, none, fiber}
use Rattle.rx_fiber.specs.Fibers.{Stage, Fiber, waiting, begun, trying, guarding, fallback}
use Rattle.rx_fiber.specs.OldLists.{begins_fallback}
use Rattle.rx_instances.specs.NearFibers.{instance_at}

-- what surrounds the children of a fiber: those of a hidden boundary that keeps none are its fallback, and those of the fiber of a fallback too
abbrev pub around_kids : Around → Stage → (keeps : Bool) → Around
around_kids a (waiting c) keeps = a
around_kids a (begun m) keeps = if is_hidden m && not keeps then a else around_children a m
around_kids a (trying c) keeps = a
around_kids a guarding keeps = a
around_kids a (fallback w) keeps = a

-- the instance of a fiber, if it is of one that has a number
abbrev pub own_mounted : Around → Option Instance → List Mounted
own_mounted a i = cons_option (option_and_then (mounted_as a) i) []

-- the instances of a list of fibers, in tree order
abbrev pub mounted_from : Around → Shape Fiber → List Mounted
mounted_from a none = []
mounted_from a (fiber id v ks rs) =
    own_mounted a (instance_at v.stage) ++ (mounted_from (around_kids a v.stage (begins_fallback rs)) ks ++ mounted_from a rs)

-- the same for the first fiber of a list, with what is below it
abbrev pub mounted_first : Around → Shape Fiber → List Mounted
mounted_first a none = []
mounted_first a (fiber id v ks rs) = own_mounted a (instance_at v.stage) ++ mounted_from (around_kids a v.stage (begins_fallback rs)) ks
