-- Which subtrees of a committed tree are idle for a render: each instance has the values that are committed, and nothing is hidden.
use Rattle.std.specs.Prelude.{option_map, ◌≡◌}
use Rattle.rx_elem.specs.Trees.{Forest, Instance, Mark, Node, of_boundary, of_catcher, of_host, of_instance, plain}
use Rattle.rx_susp.specs.declared.boundary.BoundaryState.TheVariants.{Hidden, Shown}
use Rattle.rx_meaning.specs.Fresh.{Sight, values_of}
use Rattle.rx_meaning.specs.Settled.{done_values, known_by}
use Rattle.commit_laws.specs.Each.{ForEach, ForEachIn}

-- an instance has for a render the values of its hooks that are committed
abbrev pub HasCommittedValues : Sight → Instance → Type 0
HasCommittedValues s i = values_of s i ≡ option_map (λ n. done_values s.program (known_by s) n i.initials) i.number

-- a node is idle for a render, by its mark: an instance has the committed values, and a boundary is shown
abbrev pub IsIdleMark : Sight → Mark → Type 0
IsIdleMark s (of_instance i) = HasCommittedValues s i
IsIdleMark s (of_host h) = Unit {0}
IsIdleMark s plain = Unit {0}
IsIdleMark s (of_catcher c) = Unit {0}
IsIdleMark s (of_boundary Shown) = Unit {0}
IsIdleMark s (of_boundary (Hidden a)) = ⊥

-- a tree is idle for a render: each node is
abbrev pub IsIdle : Sight → Node → Type 0
IsIdle s n = ForEach (IsIdleMark s) n

-- the same for the trees of a list
abbrev pub AllIdle : Sight → Forest → Type 0
AllIdle s ns = ForEachIn (IsIdleMark s) ns
