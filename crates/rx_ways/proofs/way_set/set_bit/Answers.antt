use Rattle.rx_ways.proofs.Bits.{more_bits}
use Rattle.rx_ways.proofs.way_set.set_bit.Goals as goal

pub returns : goal.returns
returns c = more_bits c.args.words.now c.args.number c.requires
