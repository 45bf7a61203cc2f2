use Rattle.rx_plain.proofs.Turning.{sliced_so, unsliced_so}
use Rattle.rx_plain.proofs.plain.Plain.slice.Goals as goal

pub returns-then-is_sliced : goal.returns-then-is_sliced
returns-then-is_sliced c p s g h = sliced_so s g c.args.budget c.is_sliced.result (c.is_sliced.ensures p s g h) c.if-is_sliced.true

pub returns-else-is_sliced : goal.returns-else-is_sliced
returns-else-is_sliced c p s g h = unsliced_so s g c.args.budget c.is_sliced.result (c.is_sliced.ensures p s g h) c.if-is_sliced.false
