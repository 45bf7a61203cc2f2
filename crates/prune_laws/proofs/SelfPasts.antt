-- The children of a list against its own elements: each is itself and stays, and none is gone.
use Rattle.std.specs.Prelude.{◌≡◌, Bool, false, List, [], ◌∷◌, Option, map, refl}
use Rattle.std.specs.List.{zip}
use Rattle.std.proofs.Common.{ap}
use Rattle.rx_elem.specs.Trees.{Node, node, Forest, none, vacant, child, elements_in, places}
use Rattle.rx_elem.specs.Compare.{Above, Change, change_of, Past, no_past, pasts, gone_from}
use Rattle.rx_elem.proofs.SelfMatch.{NoNull, matches_itself}
use Rattle.rx_pruned.specs.Pruned.{was}
use Rattle.prune_laws.specs.Present.{AllHaveNoNull}
use Rattle.prune_laws.proofs.SelfPlaces.{all_stay, stay_in_place, none_removed}

-- the pasts of children that were themselves
abbrev pub unmoved : Forest → List Past
unmoved none = []
unmoved (vacant ns) = no_past ∷ unmoved ns
unmoved (child n ns) = was n false ∷ unmoved ns

-- the change of a node that was itself and stayed
abbrev pub itself : Above → Node → Change
itself a n = change_of a (was n false) n

no_null : (ns : Forest) → AllHaveNoNull ns → NoNull ns
no_null none h = tt
no_null (vacant ns) h = no_null ns h
no_null (child (node e m ks fs) ns) h = (h.0.0, no_null ns h.1)

beside_false : (ns : Forest) → map (λ (x : Option Node × Bool). let r : Past = record { old = x.0; moved = x.1 } in r) (zip (places ns) (all_stay (elements_in ns))) ≡ unmoved ns
beside_false none = refl
beside_false (vacant ns) = ap (λ ps. no_past ∷ ps) (beside_false ns)
beside_false (child n ns) = ap (λ ps. was n false ∷ ps) (beside_false ns)

pub pasts_unmoved : (ns : Forest) → AllHaveNoNull ns → pasts ns (elements_in ns) ≡ unmoved ns
pasts_unmoved ns h = rw (matches_itself ns (no_null ns h), stay_in_place (elements_in ns)) (beside_false ns)

pub none_gone : (visible : Bool) (ns : Forest) → gone_from visible ns ns ≡ []
none_gone visible ns = rw (none_removed (elements_in ns)) refl
