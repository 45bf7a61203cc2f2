use Rattle.std.proofs.Common.{ap, sym, ◌∙◌}
use Rattle.rx_elem.specs.Trees.{node, none, forest}
use Rattle.rx_node.specs.MarkView.{mark_seen}
use Rattle.rx_fiber.specs.FiberView.{stage_seen}
use Rattle.rx_beside.proofs.Standing.{beside_at, new_node}
use Rattle.rx_beside.proofs.Ending.{bare_by, whole_by}
use Rattle.rx_beside.proofs.lists.over_same.Goals as goal

pub returns : goal.returns
returns c = λ o n was is.
    let t = c.args.tree.now in
    let p = c.requires.pair in
    let new = c.args.pair.now.new in
    let v = c.value-is.result.now in
    let m = mark_seen c.in-Begun.mark in
    let whole =
    new_node t new (beside_at t c.facts.ensures.fits c.facts.ensures.linked new p.made) v (c.value-is.ensures.made p.made) m (sym c.stage.ensures ∙ ap stage_seen c.in-Begun.is)
    (c.shows_children.ensures.shown c.if-shows_children.true) in
    let bare = c.in_ok-new.ensures ∙ (λ i. node (c.element.ensures i) m (forest (c.new.ensures.items i)) none) in
    bare_by o n c.in_ok-copy.field-0 c.in_ok-new.new v.element m _ (c.shows_children.ensures.hidden c.if-shows_children.true) (sym is ∙ whole) (sym is ∙ (c.requires.same ∙ was))
    (c.in_ok-copy.ensures ∙ bare) bare

pub returns-2 : goal.returns-2
returns-2 c = λ o n was is. whole_by _ o n c.in_ok-both.both.old c.in_ok-both.both.new _ _ c.in_ok-both.ensures.old c.in_ok-both.ensures.new was is
