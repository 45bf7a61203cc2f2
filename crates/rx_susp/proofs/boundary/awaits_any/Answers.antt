use Rattle.std.proofs.Common.{sym, arith}
use Rattle.rx_susp.proofs.Meeting.{any_common, any-false}
use Rattle.rx_susp.proofs.boundary.awaits_any.Goals as goal

pub returns-then-has-2 : goal.returns-then-has-2
returns-then-has-2 c = sym (any_common c.args.resolved c.args.waits c.loop-resource.resource (sym c.if-has.ensures) (sym c.if-has-2.ensures))

pub returns : goal.returns
returns c = sym (any-false c.args.resolved c.args.waits c.requires (λ r h. c.loop-resource.invariant r (omega arith)))
