use Rattle.std.proofs.Common.{ap, ◌∙◌, sym, not}
use Rattle.rx_children.specs.Children.{one}
use Rattle.rx_children.proofs.Making.{null_absent, is_fiber}
use Rattle.rx_children.proofs.children.make_one.Goals as goal

pub returns-in_ok-child-clause-added : goal.returns-in_ok-child-clause-added
returns-in_ok-child-clause-added c =
    one c.in_ok-child.field-0 c.new-fiber.result
    (null_absent c.args.element.now ∙ ap not (sym c.is_present.ensures ∙ c.if-is_present.true))
    (is_fiber c.args.tree.now.current c.args.old c.new-fiber.result c.args.place c.args.element.now c.in_ok-copy.field-0 c.args.origin c.new-fiber.ensures c.in_ok-copy.ensures c.requires.anew)
    c.in_ok-child.ensures.ok
