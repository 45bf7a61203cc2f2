use Rattle.std.proofs.Common.{◌∙◌, sym, ap, arith}
use Rattle.rx_lane.specs.Lanes.{highest}
use Rattle.rx_lane.specs.LaneBits.{lanes_of}
use Rattle.rx_lane.specs.BitLaws.{highest_by_bit, lanes_of-zero}
use Rattle.rx_lane.proofs.lanes.Lanes.highest.Goals as goal

pub bounds-self-inside-self-inside : goal.bounds-self-inside-self-inside
bounds-self-inside-self-inside c = (highest_by_bit c.self.inside.bits (omega arith) c.self.invariant).0

pub returns-then-self-eq0 : goal.returns-then-self-eq0
returns-then-self-eq0 c =
    sym (ap highest (ap lanes_of c.if-self-eq0.true ∙ lanes_of-zero)) ∙ ap highest c.self.view_is

pub returns-else-self-eq0 : goal.returns-else-self-eq0
returns-else-self-eq0 c =
    sym (highest_by_bit c.self.inside.bits (omega arith) c.self.invariant).1 ∙ ap highest c.self.view_is
