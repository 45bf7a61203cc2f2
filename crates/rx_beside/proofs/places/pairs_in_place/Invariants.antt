use Rattle.std.proofs.Common.{◌≤◌, ◌++◌, List, Option, All, IfSome}
use Rattle.rx_lists.specs.Shapes.{size}
use Rattle.rx_links.specs.Drafts.{Makes}
use Rattle.rx_links.specs.Readers.{IsIn}
use Rattle.rx_read.specs.Lists.{list_of}
use Rattle.rx_read.specs.Places.{places_in}
use Rattle.rx_beside.specs.declared.places.Pair.{Pair}
use Rattle.rx_beside.specs.Pairs.{IsPairIn, AreInPlace}
use Rattle.rx_beside.proofs.places.pairs_in_place.Given as goal

-- with what is left of the rest of both lists they are what is left of all
abbrev pub invariant-going : goal.invariant-going
invariant-going l = record {
  was : IfSome l.was (IsIn l.tree);
  made : IfSome l.next (Makes l.tree.draft);
  within : size (list_of l.tree l.next) ≤ size (list_of l.tree l.initial.next);
  pairs : All (λ o. IfSome o (IsPairIn l.tree l.initial.next)) l.pairs.items;
  stand : (cs : List (Option Pair)) → AreInPlace l.tree l.displaced (places_in l.place (list_of l.tree l.was)) (places_in l.place (list_of l.tree l.next)) cs → AreInPlace l.tree l.displaced (places_in 0 (list_of l.tree l.initial.was)) (places_in 0 (list_of l.tree l.initial.next)) (l.pairs.items ++ cs);
}

abbrev pub decreases-going : goal.decreases-going
decreases-going l = size (list_of l.tree l.next)
