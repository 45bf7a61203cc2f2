use Rattle.std.proofs.Common.{rules}
use Rattle.rx_script.specs.Pieces.{IsCut}
use Rattle.rx_script.proofs.Scripts.{lines-cut}
use Rattle.rx_script.proofs.script.first_line.Goals as goal

pub returns-in-Some-clause-lines : goal.returns-in-Some-clause-lines
returns-in-Some-clause-lines c =
    let cut : IsCut c.args.text.now c.first_piece.result.0.now c.in-Some.after.now = search rules in
    rw c.without_return.ensures (lines-cut c.args.text.now c.first_piece.result.0.now c.in-Some.after.now cut)
