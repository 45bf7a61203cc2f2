use Rattle.rx_beside.proofs.Ending.{whole_by}
use Rattle.rx_beside.proofs.beside.read_roots.Goals as goal

pub read_kept-requires-clause-pair : goal.read_kept-requires-clause-pair
read_kept-requires-clause-pair c = record { made = c.requires.made; old = c.is_made_for.ensures c.if-is_made_for.true; was = c.requires.was; is = c.requires.is }

pub returns : goal.returns
returns c = λ o n was is. whole_by _ o n c.in_ok-both.both.old c.in_ok-both.both.new _ _ c.in_ok-both.ensures.old c.in_ok-both.ensures.new was is
