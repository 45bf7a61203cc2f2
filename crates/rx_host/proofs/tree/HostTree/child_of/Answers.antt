use Rattle.std.proofs.Common.{◌≡◌, ℕ, true, false, nat_eq, subst, vec_len}
use Rattle.std.specs.Prelude.{is_some, IfSome}
use Rattle.rx_forest.specs.Forests.{is_among}
use Rattle.rx_host.specs.Kept.{Kept, children_kept, forest_kept}
use Rattle.rx_host.proofs.Settled.{child-held, child-alone}
use Rattle.rx_host.proofs.tree.HostTree.child_of.Goals as goal

pub returns-clause-held : goal.returns-clause-held
returns-clause-held c =
    subst (λ (t : Kept). IfSome c.first_of.result (λ n. is_some ((forest_kept t).held n) ≡ true)) c.self.view_is
    (child-held c.self.inside.table (vec_len c.self.inside.cells) c.args.host c.first_of.result c.self.invariant c.first_of.ensures)

pub returns-clause-alone : goal.returns-clause-alone
returns-clause-alone c =
    subst (λ (t : Kept). IfSome c.first_of.result (λ n. (q : ℕ) → nat_eq q c.args.host ≡ false → is_among (children_kept t q) n ≡ false)) c.self.view_is
    (child-alone c.self.inside.table (vec_len c.self.inside.cells) c.args.host c.first_of.result c.self.invariant c.first_of.ensures)
