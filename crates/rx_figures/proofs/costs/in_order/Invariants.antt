use Rattle.std.proofs.Common.{◌≡◌, true, length, take, drop}
use Rattle.rx_ast.specs.Syntax.{functions}
use Rattle.rx_order.specs.Graphs.{finishes}
use Rattle.rx_mentions.specs.Ways.{calls}
use Rattle.rx_figures.specs.Costs.{AreCosts}
use Rattle.rx_figures.proofs.costs.in_order.Given as goal

-- the table has the costs of the functions so far, and the others are finished behind them
abbrev pub invariant-loop-number : goal.invariant-loop-number
invariant-loop-number l =
    record {
      sized : length l.costs.items ≡ length (functions l.program);
      right : AreCosts l.program l.costs.items (take l.number-index l.number-items);
      left : finishes (calls l.program) (take l.number-index l.number-items) (drop l.number-index l.number-items) ≡ true;
    }
