use Rattle.std.proofs.Common.{◌≡◌, true, sym, ap, ◌∙◌, arith}
use Rattle.rx_elem.specs.Spots.{hidden_count}
use Rattle.rx_links.specs.Readers.{list_from}
use Rattle.rx_instances.specs.CountedFibers.{counted_list}
use Rattle.rx_instances.proofs.CountedOlds.{tree_hidden}
use Rattle.rx_instances.proofs.counts.hidden_count.Goals as goal

pub returns : goal.returns
returns c y tree =
    let current = c.args.tree.now.current in
    let same : counted_list true (list_from current c.current.result) ≡ hidden_count y =
    ap (λ o. counted_list true (list_from current o)) c.current.ensures ∙ ap (counted_list true) (sym c.facts.ensures.linked.root) ∙ tree_hidden y current tree in
    omega (arith, c.min.ensures, c.count_in.ensures, same)
