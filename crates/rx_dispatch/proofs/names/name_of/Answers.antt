use Rattle.std.proofs.Common.{◌∙◌}
use Rattle.rx_dispatch.proofs.Numbers.{name-at, name-past}
use Rattle.rx_dispatch.proofs.names.name_of.Goals as goal

pub returns-in-Some : goal.returns-in-Some
returns-in-Some c =
    c.text.ensures
    ∙ name-at c.args.checked.now c.args.component c.components.result.now c.in-Some.name.now c.components.ensures c.in-Some.ensures.lookup.3.0 c.in-Some.ensures.lookup.1

pub returns-in-None : goal.returns-in-None
returns-in-None c = name-past c.args.checked.now c.args.component c.components.result.now c.components.ensures c.in-None.ensures.lookup.3
