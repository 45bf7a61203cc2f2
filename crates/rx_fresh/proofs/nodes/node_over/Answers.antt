use Rattle.std.proofs.Common.{◌∙◌, sym}
use Rattle.std.proofs.lemmas.Result.{IfOk-weaker}
use Rattle.rx_elem.specs.Trees.{forest, node}
use Rattle.rx_meaning.specs.Fresh.{made}
use Rattle.rx_node.specs.MarkView.{mark_seen}
use Rattle.rx_fresh.proofs.OneList.{caught_over, fine_over}
use Rattle.rx_fresh.proofs.nodes.node_over.Goals as goal

pub returns-then-is_caught : goal.returns-then-is_caught
returns-then-is_caught c =
    IfOk-weaker c.node_with.result _ _ (λ x e.
    e
    ∙ (λ i. made (node c.args.element.now (mark_seen c.args.mark) (forest (c.new.ensures.items i)) (forest c.args.nodes.items)))
    ∙ caught_over c.args.element.now (mark_seen c.args.mark) (forest c.args.nodes.items) (sym c.is_caught.ensures ∙ c.if-is_caught.true))
    c.node_with.ensures

pub returns-else-is_caught : goal.returns-else-is_caught
returns-else-is_caught c =
    IfOk-weaker c.node_with-else-is_caught.result _ _ (λ x e.
    e
    ∙ (λ i. made (node c.args.element.now (mark_seen c.args.mark) (forest c.args.nodes.items) (forest (c.new-else-is_caught.ensures.items i))))
    ∙ fine_over c.args.element.now (mark_seen c.args.mark) (forest c.args.nodes.items) (sym c.is_caught.ensures ∙ c.if-is_caught.false))
    c.node_with-else-is_caught.ensures
