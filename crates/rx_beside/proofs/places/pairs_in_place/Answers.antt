use Rattle.rx_beside.proofs.Here.{not_some}
use Rattle.rx_beside.proofs.Placing.{stand_all}
use Rattle.rx_beside.proofs.places.pairs_in_place.Goals as goal

pub returns-in-None-clause-stand : goal.returns-in-None-clause-stand
returns-in-None-clause-stand c =
    stand_all c.args.tree.now c.args.displaced c.going.place _ _ c.going.was c.going.next c.going.pairs.items c.in-None.is (not_some _ c.in_default.not-Some) c.going.invariant.stand
