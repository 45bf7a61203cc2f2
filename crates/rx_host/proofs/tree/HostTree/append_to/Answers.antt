use Rattle.std.proofs.Common.{◌∙◌, ap, vec_len}
use Rattle.std.specs.Prelude.{None, refl}
use Rattle.rx_forest.specs.Forests.{placed}
use Rattle.rx_host.specs.Kept.{Kept, children_kept, forest_kept}
use Rattle.rx_host.specs.Linking.{kept_in}
use Rattle.rx_host.proofs.Settled.{stands-linked}
use Rattle.rx_host.proofs.tree.HostTree.append_to.Goals as goal

pub invariant_of-self : goal.invariant_of-self
invariant_of-self c =
    let cells = vec_len c.self.inside.cells in
    let linked = c.stand.ensures.links (children_kept (kept_in c.self.inside.table cells)) c.self.invariant.linked refl in
    (stands-linked c.self.inside.table c.stand.new.self cells cells _ c.self.invariant linked c.stand.ensures.kept).sound

pub returns-clause-stands : goal.returns-clause-stands
returns-clause-stands c =
    let cells = vec_len c.self.inside.cells in
    let linked = c.stand.ensures.links (children_kept (kept_in c.self.inside.table cells)) c.self.invariant.linked refl in
    (stands-linked c.self.inside.table c.stand.new.self cells cells _ c.self.invariant linked c.stand.ensures.kept).forest
    ∙ ap (λ (t : Kept). placed (forest_kept t) c.args.host c.args.parent None) c.self.view_is
