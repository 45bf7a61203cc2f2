use Rattle.std.proofs.Common.{◌∙◌}
use Rattle.rx_mentions.specs.Ways.{calls}
use Rattle.rx_figures.specs.Costs.{AreCosts}
use Rattle.rx_figures.proofs.Ordered.{passed-more, left-more}
use Rattle.rx_figures.proofs.costs.in_order.Goals as goal

pub loop-number-preserved : goal.loop-number-preserved
loop-number-preserved c =
    let p = c.args.program.now in
    let items = c.numbers-number-items.result.now in
    let i = c.loop-number.number-index in
    record {
      sized = c.finish.ensures.sized ∙ c.loop-number.invariant.sized;
      right = passed-more (calls p) (AreCosts p c.loop-number.costs.items) (AreCosts p c.finish.new.costs.items) items i 0 c.loop-number-test.true c.loop-number.invariant.left c.finish.ensures.more c.loop-number.invariant.right;
      left = left-more (calls p) items i 0 c.loop-number-test.true c.loop-number.invariant.left;
    }
