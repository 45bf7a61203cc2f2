use Rattle.std.proofs.Common.{sym, subst}
use Rattle.rx_page.specs.Elements.{AreAttributes, no_attribute}
use Rattle.rx_page.proofs.attributes.Attributes.new.Goals as goal

pub returns-clause-are : goal.returns-clause-are
returns-clause-are c = subst (λ t. AreAttributes t) (sym c.new.ensures.items) no_attribute
