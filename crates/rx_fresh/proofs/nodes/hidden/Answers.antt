use Rattle.std.proofs.Common.{◌∙◌, ap, sym}
use Rattle.std.proofs.lemmas.Result.{IfOk-weaker}
use Rattle.rx_susp.specs.declared.boundary.BoundaryState.TheVariants.{Hidden}
use Rattle.rx_elem.specs.Trees.{forest, node, of_boundary}
use Rattle.rx_meaning.specs.Fresh.{made, one_waits, over_boundary}
use Rattle.std.specs.Option.{option_copied}
use Rattle.rx_fresh.specs.PlaceView.{places_seen}
use Rattle.rx_fresh.proofs.nodes.hidden.Goals as goal

pub returns-in_ok-kept-in-AllMade : goal.returns-in_ok-kept-in-AllMade
returns-in_ok-kept-in-AllMade c =
    IfOk-weaker c.node_with.result _ _ (λ x e.
    e ∙ ap (λ ns. made (node c.args.element.now (of_boundary (Hidden c.args.waits)) ns (forest c.in-AllMade.nodes.items))) (ap forest c.in_ok-kept-in-AllMade.ensures ∙ c.children_if.ensures)
    ∙ ap (λ ps. over_boundary c.args.element.now (option_copied c.args.old) (one_waits c.args.waits) (places_seen ps)) (sym c.in-AllMade.is))
    c.node_with.ensures
