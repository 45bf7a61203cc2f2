use Rattle.std.proofs.Common.{◌≡◌, ◌++◌, ◌≤◌, length, map, All, IfSome}
use Rattle.rx_lists.specs.Shapes.{size}
use Rattle.rx_links.specs.Drafts.{Makes}
use Rattle.rx_links.specs.Readers.{IsIn}
use Rattle.rx_read.specs.Lists.{list_of}
use Rattle.rx_read.specs.Places.{places_in, first_node}
use Rattle.rx_beside.specs.Children.{IsNode, IsMadeIn}
use Rattle.rx_beside.proofs.children.fibers_of.Given as goal

-- with the places of the rest of the list they are all of them
abbrev pub invariant-going : goal.invariant-going
invariant-going l = record {
  inside : IfSome l.next (IsIn l.tree);
  places : map (λ o. first_node (list_of l.tree o)) l.fibers.items ++ places_in (length (map (λ o. first_node (list_of l.tree o)) l.fibers.items)) (list_of l.tree l.next) ≡ places_in 0 (list_of l.tree l.initial.next);
  nodes : All (λ o. IfSome o (IsNode l.tree)) l.fibers.items;
  made : IfSome l.initial.next (Makes l.tree.draft) → IfSome l.next (Makes l.tree.draft) × (size (list_of l.tree l.next) ≤ size (list_of l.tree l.initial.next)) × All (λ o. IfSome o (IsMadeIn l.tree l.initial.next)) l.fibers.items;
}

abbrev pub decreases-going : goal.decreases-going
decreases-going l = size (list_of l.tree l.next)
