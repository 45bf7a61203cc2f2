use Rattle.std.proofs.Common.{◌++◌, refl, ap, ◌∙◌}
use Rattle.rx_elem.specs.Spots.{at_root}
use Rattle.rx_links.specs.Drafts.{grafted}
use Rattle.rx_read.specs.Lists.{list_of}
use Rattle.rx_read.proofs.Links.{from_draft}
use Rattle.rx_host_list.specs.Listed.{hosts_in}
use Rattle.rx_host_list.proofs.Listed.{tree-hosts}
use Rattle.rx_host_list.proofs.listing.hosts_in_progress.Goals as goal

pub returns : goal.returns
returns c x tree =
    let t = c.args.tree.now in
    let l = from_draft t c.facts.ensures.fits c.facts.ensures.linked c.in_progress.result c.in_progress.ensures in
    c.in_ok-add_list.ensures at_root refl refl
    ∙ ap (λ hs. hs ++ hosts_in at_root (list_of t c.in_progress.result)) c.new-found.ensures.items
    ∙ ap (hosts_in at_root) l.0
    ∙ tree-hosts x (grafted t.draft) tree
