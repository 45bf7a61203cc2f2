use Rattle.std.proofs.Common.{sym, ap, ◌∙◌}
use Rattle.rx_elem.specs.Elements.{is_present}
use Rattle.rx_node.specs.MarkView.{mark_seen}
use Rattle.rx_fiber.specs.FiberView.{stage_seen}
use Rattle.rx_read.proofs.Links.{by_value}
use Rattle.rx_beside.proofs.Here.{element_is}
use Rattle.rx_beside.proofs.Standing.{old_held}
use Rattle.rx_beside.proofs.Keeping.{kept_node}
use Rattle.rx_beside.proofs.taking.is_kept.Goals as goal

pub returns-then-takes_over-clause-same : goal.returns-then-takes_over-clause-same
returns-then-takes_over-clause-same c = λ _.
    let t = c.args.tree.now in
    let p = c.requires.pair in
    let fits = c.facts.ensures.fits in
    let new = c.args.pair.now.new in
    let old = c.args.pair.now.old in
    kept_node t fits c.facts.ensures.linked c.requires.alike new p.made old p.old (c.takes_over.ensures.taken c.if-takes_over.true) (c.takes_over.ensures.some c.if-takes_over.true)
    c.value-was.result.now c.value-is.result.now (c.value-was.ensures.current (old_held t fits c.facts.ensures.linked new p.made old p.old)) (c.value-is.ensures.made p.made)
    (mark_seen c.in-Begun.had) (mark_seen c.in-Begun-stage.mark) (sym c.stage.ensures ∙ ap stage_seen c.in-Begun.is) (sym c.stage-2.ensures ∙ ap stage_seen c.in-Begun-stage.is)
    (sym c.is_fixed.ensures ∙ c.if-not-is_fixed.false) (c.shows_children.ensures.hidden c.if-not-shows_children.false) (c.shows_children.ensures.shown c.if-not-shows_children.false)

pub returns-then-takes_over-clause-present : goal.returns-then-takes_over-clause-present
returns-then-takes_over-clause-present c e = λ o was.
    let t = c.args.tree.now in
    let old = c.args.pair.now.old in
    let l = by_value t c.facts.ensures.fits c.facts.ensures.linked old c.value-was.result.now c.requires.pair.was.inside c.value-was.ensures.current c.value-was.ensures.made in
    sym (ap is_present (c.element.ensures ∙ element_is t old _ _ _ l.2 o was)) ∙ sym c.is_present.ensures ∙ c.if-not-is_present.false

pub returns-clause-present : goal.returns-clause-present
returns-clause-present c e = λ o was.
    let t = c.args.tree.now in
    let old = c.args.pair.now.old in
    let l = by_value t c.facts.ensures.fits c.facts.ensures.linked old c.value-was.result.now c.requires.pair.was.inside c.value-was.ensures.current c.value-was.ensures.made in
    sym (ap is_present (c.element.ensures ∙ element_is t old _ _ _ l.2 o was)) ∙ sym c.is_present.ensures ∙ c.if-not-is_present.false
