use Rattle.std.proofs.Common.{◌≡◌, true, length, take, drop}
use Rattle.rx_ast.specs.Syntax.{components}
use Rattle.rx_order.specs.Graphs.{finishes}
use Rattle.rx_mentions.specs.Ways.{places}
use Rattle.rx_figures.specs.Figures.{AreFigures}
use Rattle.rx_figures.proofs.figures.in_order.Given as goal

-- the table has the figures of the components so far, and the others are finished behind them
abbrev pub invariant-loop-number : goal.invariant-loop-number
invariant-loop-number l =
    record {
      sized : length l.table.items ≡ length (components l.program);
      right : AreFigures l.program l.table.items (take l.number-index l.number-items);
      left : finishes (places l.program) (take l.number-index l.number-items) (drop l.number-index l.number-items) ≡ true;
    }
