use Rattle.rx_hook_store.proofs.Stores.{each-keeps, keeps-give}
use Rattle.rx_hook_store.proofs.laws.keeps_give.Goals as goal

pub returns-clause-mounted : goal.returns-clause-mounted
returns-clause-mounted c p s g kept keeps done k m at = keeps-give p s g kept m.number m.initials done (each-keeps p s kept keeps k m at)

pub returns-clause-instance : goal.returns-clause-instance
returns-clause-instance c = keeps-give
