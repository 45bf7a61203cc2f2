use Rattle.std.proofs.Common.{Some, None}
use Rattle.rx_elem.specs.Numbers.{numbered}
use Rattle.rx_fiber.specs.Reading.{no_more, gap}
use Rattle.commit_laws.proofs.HiddenLaw.{numbering_numbers}
use Rattle.rx_read.proofs.laws.current_trees_have_numbers.Goals as goal

pub returns-clause-first : goal.returns-clause-first
returns-clause-first c w = (None, gap no_more, tt)

pub returns-clause-swapped : goal.returns-clause-swapped
returns-clause-swapped c next x w d tree = (Some (numbered next x).1, tree, numbering_numbers next x)
