use Rattle.std.proofs.Common.{◌∙◌, ap}
use Rattle.rx_elem.specs.Trees.{places, children_of}
use Rattle.rx_node.proofs.Listing.{places-forest}
use Rattle.rx_node.proofs.node.Node.children.Goals as goal

pub returns-clause-are : goal.returns-clause-are
returns-clause-are c =
    c.deref-2.ensures.value
    ∙ ap (λ p. p.children.items) c.deref.ensures
    ∙ places-forest c.self.inside.parts.value.children.items
    ∙ ap (λ n. places (children_of n)) c.self.view_is
