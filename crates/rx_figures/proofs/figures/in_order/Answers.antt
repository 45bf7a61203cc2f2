use Rattle.std.proofs.Common.{◌∙◌}
use Rattle.rx_mentions.specs.Ways.{places}
use Rattle.rx_figures.specs.Figures.{AreFigures}
use Rattle.rx_figures.proofs.Ordered.{passed-more, left-more}
use Rattle.rx_figures.proofs.figures.in_order.Goals as goal

pub loop-number-preserved : goal.loop-number-preserved
loop-number-preserved c =
    let p = c.args.program.now in
    let items = c.numbers-number-items.result.now in
    let i = c.loop-number.number-index in
    record {
      sized = c.finish.ensures.sized ∙ c.loop-number.invariant.sized;
      right = passed-more (places p) (AreFigures p c.loop-number.table.items) (AreFigures p c.finish.new.table.items) items i 0 c.loop-number-test.true c.loop-number.invariant.left c.finish.ensures.more c.loop-number.invariant.right;
      left = left-more (places p) items i 0 c.loop-number-test.true c.loop-number.invariant.left;
    }
