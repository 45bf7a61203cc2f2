use Rattle.std.proofs.lemmas.List.{take_rest}
use Rattle.rx_script.proofs.Paths.{part-none, part-numbered}
use Rattle.rx_script.proofs.path.numbered_part.Goals as goal

pub returns-in-Some : goal.returns-in-Some
returns-in-Some c = rw (part-numbered c.args.word.now c.in-Some.at c.in-Some.ensures.found, ← take_rest) c.placed.ensures

pub returns-in-None : goal.returns-in-None
returns-in-None c = part-none c.args.word.now c.requires c.in-None.ensures.none
