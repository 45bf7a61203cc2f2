use Rattle.run_laws.proofs.KeptFacts.{kept_facts}
use Rattle.run_laws.proofs.laws.kept_facts.Goals as goal

pub returns : goal.returns
returns c = kept_facts
