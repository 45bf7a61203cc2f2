use Rattle.std.proofs.Common.{◌∙◌, ap, vec_len}
use Rattle.std.specs.Prelude.{option_map, None}
use Rattle.rx_forest.specs.Forests.{with_held, with_body, with_value}
use Rattle.rx_host.specs.Kept.{Kept, forest_kept}
use Rattle.rx_host.proofs.Settled.{stands-changed}
use Rattle.rx_host.proofs.tree.HostTree.unset_attr.Goals as goal

pub invariant_of-self : goal.invariant_of-self
invariant_of-self c =
    (stands-changed c.self.inside.table c.unset_attr.new.self (vec_len c.self.inside.cells) (vec_len c.self.inside.cells) c.args.host (option_map (with_body (with_value c.args.name.now None))) c.self.invariant c.unset_attr.ensures).sound

pub returns-clause-made : goal.returns-clause-made
returns-clause-made c =
    ((stands-changed c.self.inside.table c.unset_attr.new.self (vec_len c.self.inside.cells) (vec_len c.self.inside.cells) c.args.host (option_map (with_body (with_value c.args.name.now None))) c.self.invariant c.unset_attr.ensures).forest
    ∙ ap (λ (t : Kept). with_held (forest_kept t) c.args.host (option_map (with_body (with_value c.args.name.now None)))) c.self.view_is)
