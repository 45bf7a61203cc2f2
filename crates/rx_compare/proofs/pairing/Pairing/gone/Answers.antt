use Rattle.std.proofs.Common.{◌∙◌, ap, sym, subst, filter_map}
use Rattle.rx_elem.specs.Trees.{elements_in}
use Rattle.rx_elem.specs.Compare.{node_at}
use Rattle.rx_compare.specs.InPlace.{AreInPlace}
use Rattle.rx_compare.specs.Matched.{IsMatched}
use Rattle.rx_compare.specs.Pairs.{IsPairing}
use Rattle.rx_compare.proofs.InPlace.{no_nodes_gone}
use Rattle.rx_compare.proofs.pairing.Pairing.gone.Goals as goal

pub returns-in-InPlace : goal.returns-in-InPlace
returns-in-InPlace c old new is =
    let beside : AreInPlace old new = subst (IsPairing old new) c.in-InPlace.is is in
    sym (no_nodes_gone old new beside)

pub returns-in-Matched : goal.returns-in-Matched
returns-in-Matched c old new is =
    let beside : IsMatched old (elements_in new) c.in-Matched.matching = subst (IsPairing old new) c.in-Matched.is is in
    ap (filter_map (node_at old)) (c.deref.ensures.value ∙ beside.removed)
