use Rattle.rx_complete.proofs.Passing.{passed_stands, passed_leads}
use Rattle.rx_complete.proofs.completing.pass.Goals as goal

pub returns-clause-stands : goal.returns-clause-stands
returns-clause-stands c st levels fs x h = passed_stands c.args.tree.now st c.args.at levels fs x h c.place_facts.ensures c.next_of.result c.next_of.ensures

pub returns-clause-leads : goal.returns-clause-leads
returns-clause-leads c st levels fs x h = passed_leads c.args.tree.now st c.args.at levels fs x h c.place_facts.ensures c.next_of.result c.next_of.ensures
