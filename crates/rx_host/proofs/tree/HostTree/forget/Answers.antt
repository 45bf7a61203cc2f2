use Rattle.std.proofs.Common.{◌≡◌, ℕ, [], true, false, ◌∙◌, sym, ap, subst, vec_len}
use Rattle.std.specs.Prelude.{is_some}
use Rattle.rx_forest.specs.Forests.{HostForest, is_among}
use Rattle.rx_host.specs.Kept.{Kept, children_kept, forest_kept}
use Rattle.rx_host.proofs.Settled.{stands-dropped}
use Rattle.rx_host.proofs.tree.HostTree.forget.Goals as goal

pub invariant_of-self : goal.invariant_of-self
invariant_of-self c =
    let cells = vec_len c.self.inside.cells in
    let back = sym c.self.view_is in
    let there = subst (λ (t : Kept). is_some ((forest_kept t).held c.args.host) ≡ true) back c.requires.held in
    let nowhere = subst (λ (t : Kept). (q : ℕ) → is_among (children_kept t q) c.args.host ≡ false) back c.requires.nowhere in
    let childless = subst (λ (t : Kept). children_kept t c.args.host ≡ []) back c.requires.childless in
    (stands-dropped c.self.inside.table c.forget.new.self cells cells c.args.host c.self.invariant there nowhere childless c.forget.ensures.gone c.forget.ensures.first c.forget.ensures.last).sound

pub returns-clause-children : goal.returns-clause-children
returns-clause-children c =
    let cells = vec_len c.self.inside.cells in
    let back = sym c.self.view_is in
    let there = subst (λ (t : Kept). is_some ((forest_kept t).held c.args.host) ≡ true) back c.requires.held in
    let nowhere = subst (λ (t : Kept). (q : ℕ) → is_among (children_kept t q) c.args.host ≡ false) back c.requires.nowhere in
    let childless = subst (λ (t : Kept). children_kept t c.args.host ≡ []) back c.requires.childless in
    ap (λ (f : HostForest). f.children)
    (stands-dropped c.self.inside.table c.forget.new.self cells cells c.args.host c.self.invariant there nowhere childless c.forget.ensures.gone c.forget.ensures.first c.forget.ensures.last).forest
    ∙ ap children_kept c.self.view_is
