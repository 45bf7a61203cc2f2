use Rattle.std.proofs.Common.{◌≡◌, sym}
use Rattle.rx_rules.specs.Bounds.{depth_bound}
use Rattle.rx_check.proofs.checking.refuse_depth.Goals as goal

pub returns : goal.returns
returns c =
    let e : c.args.depth ≡ depth_bound c.args.program.now = c.requires.depth c.requires.few in
    rw (sym e, sym c.number_over.ensures) c.refuse_count.ensures
