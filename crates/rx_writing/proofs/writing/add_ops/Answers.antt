use Rattle.std.proofs.Common.{sym}
use Rattle.rx_lines.specs.Lines.{operated}
use Rattle.rx_writing.proofs.Behind.{with_lines-nil, items-next}
use Rattle.rx_writing.proofs.writing.add_ops.Goals as goal

pub ops-init : goal.ops-init
ops-init c = sym (with_lines-nil c.args.log.now)

pub ops-preserved : goal.ops-preserved
ops-preserved c =
    items-next operated c.args.ops.now c.ops.op-index c.op-item.result c.args.log.now c.ops.log c.op_line.new.self c.ops-test.true c.op-item.is c.ops.invariant
    c.in_ok-op_line.ensures.written
