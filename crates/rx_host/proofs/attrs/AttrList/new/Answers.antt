use Rattle.rx_host.proofs.Attributes.{none-by-name}
use Rattle.rx_host.proofs.attrs.AttrList.new.Goals as goal

pub invariant_of-result : goal.invariant_of-result
invariant_of-result c = none-by-name
