-- The hosts that fibers tell.
use Rattle.std.specs.Prelude.{List, [], ◌∷◌, filter_map}
use Rattle.rx_elem.specs.Spots.{Around, spots_in}
use Rattle.rx_elem.specs.Trees.{forest}
use Rattle.rx_forest.specs.Hosts.{Host, host_at}
use Rattle.rx_lists.specs.Shapes.{Shape}
use Rattle.rx_fiber.specs.Fibers.{Fiber}
use Rattle.rx_read.specs.Places.{first_node, places_in}

-- the hosts of the nodes that a list of fibers stands for and of all below, by what surrounds the list
abbrev pub hosts_in : Around → Shape Fiber → List Host
hosts_in a s = filter_map host_at (spots_in a (forest (places_in 0 s)))

-- the hosts of the node that its first fiber stands for and of all below, if that stands for one
abbrev pub first_hosts : Around → Shape Fiber → List Host
first_hosts a s = filter_map host_at (spots_in a (forest (first_node s ∷ [])))
