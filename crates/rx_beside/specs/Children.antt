-- Fibers of the two trees.
use Rattle.std.specs.Prelude.{◌≡◌, ℕ, ◌≤◌, Option, Some}
use Rattle.rx_elem.specs.Trees.{Node}
use Rattle.rx_lists.specs.Shapes.{size}
use Rattle.rx_links.specs.Drafts.{Trees, Makes}
use Rattle.rx_links.specs.Readers.{IsIn}
use Rattle.rx_fiber.specs.Fibers.{Fiber}
use Rattle.rx_read.specs.Lists.{list_of}
use Rattle.rx_read.specs.Places.{first_node}

-- a fiber that stands for a node
pub record IsNode (t : Trees Fiber) (i : ℕ) : Type 0 where
  pub inside : IsIn t i
  pub node : Node
  pub stands : first_node (list_of t (Some i)) ≡ Some node

-- a made fiber of the list to which a link leads
pub record IsMadeIn (t : Trees Fiber) (first : Option ℕ) (i : ℕ) : Type 0 where
  pub made : Makes t.draft i
  pub within : size (list_of t (Some i)) ≤ size (list_of t first)
