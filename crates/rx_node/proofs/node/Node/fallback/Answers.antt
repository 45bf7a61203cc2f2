use Rattle.std.proofs.Common.{◌∙◌, ap}
use Rattle.rx_elem.specs.Trees.{places, fallback_of}
use Rattle.rx_node.proofs.Listing.{places-forest}
use Rattle.rx_node.proofs.node.Node.fallback.Goals as goal

pub returns-clause-are : goal.returns-clause-are
returns-clause-are c =
    c.deref-2.ensures.value
    ∙ ap (λ p. p.fallback.items) c.deref.ensures
    ∙ places-forest c.self.inside.parts.value.fallback.items
    ∙ ap (λ n. places (fallback_of n)) c.self.view_is
