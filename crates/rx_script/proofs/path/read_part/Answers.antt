use Rattle.std.proofs.Common.{◌∙◌, sym}
use Rattle.rx_script.proofs.Paths.{part-name}
use Rattle.rx_script.proofs.path.read_part.Goals as goal

pub returns-in-Some : goal.returns-in-Some
returns-in-Some c = part-name c.args.word.now c.in-Some.name (sym c.in-Some.is ∙ c.in_ok-name.ensures)
