-- What is at or below fibers, as it is kept on them.
use Rattle.std.specs.Prelude.{◌≡◌, ℕ, Option}
use Rattle.std.specs.Option.{option_and_then, option_map_or}
use Rattle.rx_lists.specs.Shapes.{Shape, none, fiber}
use Rattle.rx_links.specs.Readers.{value_of}
use Rattle.rx_fiber.specs.declared.subtree.Subtree.{Subtree}
use Rattle.rx_fiber.specs.Fibers.{Fiber, nothing, joined, own_subtree}

-- what is kept on a current fiber, if it is there
abbrev pub subtree_at : Shape Fiber → Option ℕ → Subtree
subtree_at c o = option_map_or (λ v. v.subtree) (option_and_then (value_of c) o) nothing

-- what is kept on the fibers of a list, taken together
abbrev pub subtrees_of : Shape Fiber → Subtree
subtrees_of none = nothing
subtrees_of (fiber id v ks rs) = joined v.subtree (subtrees_of rs)

-- each fiber of a list, and each below, keeps what it tells of itself joined with what its children keep
abbrev pub IsGathered : Shape Fiber → Type 0
IsGathered none = Unit {0}
IsGathered (fiber id v ks rs) = (v.subtree ≡ joined (own_subtree v.stage) (subtrees_of ks)) × IsGathered ks × IsGathered rs

-- the same of a fiber with these children
abbrev pub IsGatheredOver : Fiber → Shape Fiber → Type 0
IsGatheredOver v ks = (v.subtree ≡ joined (own_subtree v.stage) (subtrees_of ks)) × IsGathered ks
