use Rattle.std.proofs.Common.{not, ap, ◌∙◌}
use Rattle.rx_read.proofs.Links.{by_sibling}
use Rattle.rx_beside.proofs.Here.{last_places, no_some}
use Rattle.rx_beside.proofs.children.is_last.Goals as goal

pub returns : goal.returns
returns c e n =
    let t = c.args.tree.now in
    let i = c.args.id in
    let l = by_sibling t c.facts.ensures.fits c.facts.ensures.linked i c.next_sibling.result c.requires c.next_sibling.ensures.current c.next_sibling.ensures.made in
    last_places t i l.0 l.1 _ l.2 (no_some _ (c.is_none.ensures ∙ ap not e)) n
