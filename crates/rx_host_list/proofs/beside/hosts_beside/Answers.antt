use Rattle.std.proofs.Common.{◌≡◌, ℕ, List, Some, nat_eq, ◌||◌, refl, ap, ◌∙◌, subst}
use Rattle.rx_elem.specs.Spots.{at_root}
use Rattle.rx_forest.specs.Hosts.{hosts}
use Rattle.rx_forest.specs.HostOps.{placements}
use Rattle.host_laws.specs.Siblings.{with_parents}
use Rattle.host_laws.proofs.Siblings.{siblings_tell}
use Rattle.rx_set.specs.Sets.{holds}
use Rattle.rx_links.specs.Drafts.{grafted}
use Rattle.rx_read.proofs.Links.{from_draft}
use Rattle.rx_host_list.specs.Walks.{HasWalked, spots_of}
use Rattle.rx_host_list.proofs.Walks.{tree-walked}
use Rattle.rx_host_list.proofs.beside.hosts_beside.Goals as goal

pub returns : goal.returns
returns c x tree sound placed parents =
    let t = c.args.tree.now in
    let w = holds c.args.wanted.now in
    let l = from_draft t c.facts.ensures.fits c.facts.ensures.linked c.in_progress.result c.in_progress.ensures in
    let empty = c.new-met.ensures in
    let listed : c.walk.new.found.items ≡ with_parents w (hosts (Some x)) =
    tree-walked w (holds c.add.new.self) (holds c.walk.new.met) c.new-found.result.items c.walk.new.found.items x (grafted t.draft) tree sound
    (λ n. c.in_ok-add.ensures.holds n ∙ ap (λ (ns : List ℕ). holds ns n || nat_eq n 0) empty)
    (c.is_subset.ensures.each c.if-not-is_subset.false)
    c.new-found.ensures.items
    (subst (λ s. HasWalked w (holds c.add.new.self) (holds c.walk.new.met) c.new-found.result.items c.walk.new.found.items (spots_of at_root s)) l.0
    (c.in_ok-walk.ensures at_root refl refl)) in
    ap (placements placed) listed ∙ siblings_tell placed w (hosts (Some x)) parents
