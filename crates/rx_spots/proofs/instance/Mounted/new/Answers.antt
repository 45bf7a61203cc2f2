use Rattle.std.proofs.Common.{sym}
use Rattle.std.proofs.lemmas.Result.{IfOk-weaker}
use Rattle.rx_spots.proofs.instance.Mounted.new.Goals as goal

pub returns : goal.returns
returns c = IfOk-weaker c.below.result _ _ (λ m is. is c.args.around (sym c.owner.ensures) (sym c.is_visible.ensures)) c.below.ensures
