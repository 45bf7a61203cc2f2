use Rattle.std.proofs.Common.{subst}
use Rattle.std.proofs.lemmas.Result.{IfOk-weaker}
use Rattle.rx_set.specs.Sets.{holds}
use Rattle.host_laws.specs.Siblings.{HasPlacedParents}
use Rattle.rx_commit.proofs.Beside.{parents-placed}
use Rattle.rx_commit.proofs.placing.parents_of_placed.Goals as goal

pub returns : goal.returns
returns c =
    IfOk-weaker c.placed_parents.result _ _
    (λ parents among old new beside left_is placed_is is sound.
    parents-placed old new beside c.args.placed.now (holds parents) is sound placed_is (subst (HasPlacedParents c.args.placed.now (holds parents)) left_is among))
    c.placed_parents.ensures
