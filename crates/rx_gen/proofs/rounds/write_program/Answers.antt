use Rattle.std.proofs.Common.{rules}
use Rattle.rx_gen.specs.Generated.{program_text}
use Rattle.rx_gen.proofs.rounds.write_program.Goals as goal

pub returns : goal.returns
unfolding program_text
returns c = search rules
