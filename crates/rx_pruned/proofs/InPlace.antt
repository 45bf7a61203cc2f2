-- Two lists of which each child stands where it stood, with and without what is left out.
use Rattle.rx_elem.specs.Trees.{Forest}
use Rattle.rx_compare.specs.InPlace.{AreInPlace}
use Rattle.rx_pruned.specs.Pruned.{PrunedInPlace, each, through}

-- the whole lists stand in place
pub wholes_in_place : {d : _} {os ns ps qs : Forest} → PrunedInPlace d os ns ps qs → AreInPlace os ns
wholes_in_place (each wholes kept below) = wholes
wholes_in_place (through bare stands below) = (stands, tt)

-- so does what is kept of them
pub kept_in_place : {d : _} {os ns ps qs : Forest} → PrunedInPlace d os ns ps qs → AreInPlace ps qs
kept_in_place (each wholes kept below) = kept
kept_in_place (through bare stands below) = kept_in_place below
