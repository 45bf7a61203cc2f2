use Rattle.std.proofs.Common.{sym}
use Rattle.rx_lines.specs.Lines.{caught}
use Rattle.rx_writing.proofs.Behind.{with_lines-nil, items-next}
use Rattle.rx_writing.proofs.writing.add_caught.Goals as goal

pub caught-init : goal.caught-init
caught-init c = sym (with_lines-nil c.args.log.now)

pub caught-preserved : goal.caught-preserved
caught-preserved c =
    items-next caught c.args.values.now c.caught.value-index c.value-item.result c.args.log.now c.caught.log c.caught_line.new.self c.caught-test.true c.value-item.is c.caught.invariant
    c.in_ok-caught_line.ensures.written
