-- The nearest instances from a place of a tree on, and what is told of an instance.
use Rattle.std.specs.Prelude.{ℕ, Bool, false, List, [], ◌∷◌, ◌++◌, Option, Some, None, bytes_eq, filter, slice_get, option_map, option_and_then}
use Rattle.std.specs.Option.{option_map_or}
use Rattle.rx_base.specs.Values.{Name}
use Rattle.rx_ast.specs.Syntax.{Program}
use Rattle.rx_elem.specs.Spots.{Mounted}
use Rattle.rx_elem.specs.Trees.{Instance, Mark, of_instance, of_host, of_boundary, of_catcher, plain, Node, node, Forest, none, vacant, child, children_of, instance_in, mark_of}
use Rattle.rx_step.specs.Steps.{Path}
use Rattle.rx_model.specs.State.{name_of}

-- what is told of an instance: its number, and its component
pub record Told : Type 0 where
  pub number : ℕ
  pub component : ℕ

-- what is told of a mounted instance
abbrev pub found_as : Mounted → Told
found_as m = record { number = m.number; component = m.component }

-- what is told of an instance, from its first commit on
abbrev pub told_of : Instance → Option Told
told_of i = option_map (λ n. record { number = n; component = i.component }) i.number

-- what is told of a node, if it is an instance
abbrev pub told : Node → Option Told
told n = option_and_then told_of (instance_in (mark_of n))

-- a node itself if it is an instance, and else those that are the nearest below it
abbrev pub itself_or : Mark → Node → (below : List Node) → List Node
itself_or (of_instance i) n below = n ∷ []
itself_or (of_host h) n below = below
itself_or (of_boundary b) n below = below
itself_or (of_catcher c) n below = below
itself_or plain n below = below

-- the nearest instances from a node on, in tree order: itself if it is one, and else those of its children; and then those of its fallback
abbrev mutual
  pub nearest : Node → List Node
  nearest (node e m ns fs) = itself_or m (node e m ns fs) (nearest_in ns) ++ nearest_in fs

  -- the same for the trees of a list
  pub nearest_in : Forest → List Node
  nearest_in none = []
  nearest_in (vacant ns) = nearest_in ns
  nearest_in (child n ns) = nearest n ++ nearest_in ns

-- the same for a tree that may be missing
abbrev pub nearest_if : Option Node → List Node
nearest_if None = []
nearest_if (Some n) = nearest n

-- a node is an instance of a component of this name
abbrev pub is_named : Program → Name → Node → Bool
is_named p name n = option_map_or (λ i. bytes_eq (name_of p i.component) name) (instance_in (mark_of n)) false

-- those of these nodes that are instances of a component of this name
abbrev pub named : Program → Name → List Node → List Node
named p name = filter (is_named p name)

-- the node that the parts of a path that are left lead to, from node to node
abbrev pub node_from : Program → Node → Path → Option Node
node_from p n [] = Some n
node_from p n (part ∷ parts) = option_and_then (λ x. node_from p x parts) (slice_get (named p part.0 (nearest_in (children_of n))) part.1)

-- and so from the root of a tree
abbrev pub node_at : Program → Option Node → Path → Option Node
node_at p tree [] = None
node_at p tree (part ∷ parts) = option_and_then (λ x. node_from p x parts) (slice_get (named p part.0 (nearest_if tree)) part.1)
