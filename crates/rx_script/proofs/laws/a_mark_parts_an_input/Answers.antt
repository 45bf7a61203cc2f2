use Rattle.rx_script.proofs.Marked.{parted}
use Rattle.rx_script.proofs.laws.a_mark_parts_an_input.Goals as goal

pub returns : goal.returns
returns c = parted
