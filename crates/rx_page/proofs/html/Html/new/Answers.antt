use Rattle.std.proofs.Common.{sym, subst}
use Rattle.rx_page.specs.Elements.{IsNested, nothing}
use Rattle.rx_page.proofs.html.Html.new.Goals as goal

pub returns-clause-nested : goal.returns-clause-nested
returns-clause-nested c = subst (λ t. IsNested t) (sym c.new.ensures.items) nothing
