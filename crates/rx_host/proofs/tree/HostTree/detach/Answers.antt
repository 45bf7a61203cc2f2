use Rattle.std.proofs.Common.{ℕ, List, ◌∙◌, ap, vec_len}
use Rattle.rx_forest.specs.Forests.{HostForest, without}
use Rattle.rx_host.specs.Kept.{Kept, children_kept, forest_kept}
use Rattle.rx_host.specs.Linking.{kept_in}
use Rattle.rx_host.proofs.Settled.{stands-linked}
use Rattle.rx_host.proofs.tree.HostTree.detach.Goals as goal

pub invariant_of-self : goal.invariant_of-self
invariant_of-self c =
    let cells = vec_len c.self.inside.cells in
    let linked = c.detach.ensures.links (children_kept (kept_in c.self.inside.table cells)) c.self.invariant.linked in
    (stands-linked c.self.inside.table c.detach.new.self cells cells _ c.self.invariant linked c.detach.ensures.kept).sound

pub returns-clause-held : goal.returns-clause-held
returns-clause-held c =
    let cells = vec_len c.self.inside.cells in
    let linked = c.detach.ensures.links (children_kept (kept_in c.self.inside.table cells)) c.self.invariant.linked in
    ap (λ (f : HostForest). f.held) (stands-linked c.self.inside.table c.detach.new.self cells cells _ c.self.invariant linked c.detach.ensures.kept).forest
    ∙ ap (λ (t : Kept). (forest_kept t).held) c.self.view_is

pub returns-clause-children : goal.returns-clause-children
returns-clause-children c =
    let cells = vec_len c.self.inside.cells in
    let linked = c.detach.ensures.links (children_kept (kept_in c.self.inside.table cells)) c.self.invariant.linked in
    let left : Kept → ℕ → List ℕ = λ t q. without c.args.host ((forest_kept t).children q) in
    ap (λ (f : HostForest). f.children) (stands-linked c.self.inside.table c.detach.new.self cells cells _ c.self.invariant linked c.detach.ensures.kept).forest
    ∙ ap left c.self.view_is
