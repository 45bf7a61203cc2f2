use Rattle.std.proofs.Common.{sym}
use Rattle.rx_lines.specs.Lines.{logged}
use Rattle.rx_writing.proofs.Behind.{with_lines-nil, items-next}
use Rattle.rx_writing.proofs.writing.add_effects.Goals as goal

pub effects-init : goal.effects-init
effects-init c = sym (with_lines-nil c.args.log.now)

pub effects-preserved : goal.effects-preserved
effects-preserved c =
    items-next logged c.args.lines.now c.effects.line-index c.line-item.result c.args.log.now c.effects.log c.log_line.new.self c.effects-test.true c.line-item.is c.effects.invariant
    c.in_ok-log_line.ensures.written
