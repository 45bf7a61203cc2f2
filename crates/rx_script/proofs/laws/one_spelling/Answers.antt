use Rattle.rx_script.proofs.NumberLaws.{natural-decimal}
use Rattle.rx_script.proofs.laws.one_spelling.Goals as goal

pub returns : goal.returns
returns c = natural-decimal
