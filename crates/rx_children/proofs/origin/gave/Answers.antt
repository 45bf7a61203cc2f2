use Rattle.std.proofs.Common.{◌∙◌, ap}
use Rattle.rx_fiber.specs.Stood.{given_in}
use Rattle.rx_children.proofs.Nodes.{bare_made}
use Rattle.rx_children.proofs.Origins.{gave_none, gave_so}
use Rattle.rx_children.proofs.origin.gave.Goals as goal

pub returns-in-Some : goal.returns-in-Some
returns-in-Some c =
    c.given_in.ensures
    ∙ (ap given_in c.element.ensures
    ∙ gave_so c.args.tree.now c.args.at c.place_facts.ensures c.requires c.alternate.result c.in-Some.old (c.alternate.ensures.made (bare_made c.args.tree.now c.args.at c.place_facts.ensures c.requires)) c.in-Some.is
    c.value.result.now c.value.ensures.current)

pub returns-in-None : goal.returns-in-None
returns-in-None c =
    gave_none c.args.tree.now c.args.at c.alternate.result (c.alternate.ensures.made (bare_made c.args.tree.now c.args.at c.place_facts.ensures c.requires)) c.in-None.is
