use Rattle.std.proofs.Common.{◌∙◌, ap, vec_len}
use Rattle.std.specs.Prelude.{option_map, Some}
use Rattle.rx_forest.specs.Forests.{with_held, with_body, with_value}
use Rattle.rx_host.specs.Kept.{Kept, forest_kept}
use Rattle.rx_host.proofs.Settled.{stands-changed}
use Rattle.rx_host.proofs.tree.HostTree.set_attr.Goals as goal

pub invariant_of-self : goal.invariant_of-self
invariant_of-self c =
    (stands-changed c.self.inside.table c.set_attr.new.self (vec_len c.self.inside.cells) (vec_len c.set_attr.new.cells) c.args.host (option_map (with_body (with_value c.args.name (Some c.args.value)))) c.self.invariant c.set_attr.ensures.changes).sound

pub returns-clause-made : goal.returns-clause-made
returns-clause-made c =
    ((stands-changed c.self.inside.table c.set_attr.new.self (vec_len c.self.inside.cells) (vec_len c.set_attr.new.cells) c.args.host (option_map (with_body (with_value c.args.name (Some c.args.value)))) c.self.invariant c.set_attr.ensures.changes).forest
    ∙ ap (λ (t : Kept). with_held (forest_kept t) c.args.host (option_map (with_body (with_value c.args.name (Some c.args.value))))) c.self.view_is)
