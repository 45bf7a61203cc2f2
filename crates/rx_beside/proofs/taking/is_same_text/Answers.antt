use Rattle.std.proofs.Common.{not, sym, ap, ◌∙◌, Some}
use Rattle.rx_read.proofs.Links.{with_sibling}
use Rattle.rx_beside.proofs.Here.{no_some}
use Rattle.rx_beside.proofs.Keeping.{bare_same}
use Rattle.rx_beside.proofs.taking.is_same_text.Goals as goal

pub returns-then-is_none : goal.returns-then-is_none
returns-then-is_none c = λ e.
    let t = c.args.tree.now in
    let fits = c.facts.ensures.fits in
    let linked = c.facts.ensures.linked in
    let old = c.args.pair.now.old in
    let new = c.args.pair.now.new in
    let (n, had, has) = c.is_same_host.ensures c.if-not-is_same_host.false in
    let (s, was, is) = c.are_same_texts.ensures c.if-not-are_same_texts.false in
    let k = with_sibling t fits linked old _ _ c.requires.was.inside c.value-was.ensures.current c.value-was.ensures.made c.first_child.ensures.current c.first_child.ensures.made in
    let l = with_sibling t fits linked new _ _ c.requires.is.inside c.value-is.ensures.current c.value-is.ensures.made c.first_child-then-is_none.ensures.current c.first_child-then-is_none.ensures.made in
    bare_same t new old _ _ _ _ _ _ k.1 l.1 (no_some _ (c.is_none.ensures ∙ ap not c.if-is_none.true)) (no_some _ (c.is_none-then-is_none.ensures ∙ ap not e))
    (Some n) (sym c.stage.ensures ∙ had) (sym c.stage-2.ensures ∙ has) (sym c.element-else-not-is_same_host.ensures ∙ is ∙ (sym was ∙ c.element.ensures))
