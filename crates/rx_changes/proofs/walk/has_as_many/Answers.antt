use Rattle.std.proofs.Common.{ap, sym, ◌∙◌, length}
use Rattle.std.proofs.lemmas.Bool.{eqb-true}
use Rattle.rx_elem.specs.Trees.{places}
use Rattle.rx_node.proofs.Listing.{places-forest}
use Rattle.rx_changes.proofs.walk.has_as_many.Goals as goal

pub returns : goal.returns
returns c = λ same.
    ap (λ ns. length (places ns)) (sym c.children_if.ensures)
    ∙ ap length (sym (places-forest c.children_if.result.now))
    ∙ eqb-true (length c.children_if.result.now) (length c.children.result.now) same
    ∙ ap length c.children.ensures.are
