use Rattle.std.proofs.Common.{◌∙◌, ap, vec_len}
use Rattle.std.specs.Prelude.{option_map}
use Rattle.rx_forest.specs.Forests.{with_held, with_mark}
use Rattle.rx_host.specs.Kept.{Kept, forest_kept}
use Rattle.rx_host.proofs.Conditions.{becomes-marked}
use Rattle.rx_host.proofs.Settled.{stands-changed}
use Rattle.rx_host.proofs.tree.HostTree.set_hidden.Goals as goal

pub invariant_of-self : goal.invariant_of-self
invariant_of-self c =
    (stands-changed c.self.inside.table c.set_hidden.new.self (vec_len c.self.inside.cells) (vec_len c.self.inside.cells) c.args.host (option_map (with_mark c.args.hidden)) c.self.invariant c.set_hidden.ensures).sound

pub returns-clause-made : goal.returns-clause-made
returns-clause-made c =
    becomes-marked (forest_kept c.args.self.now) _ c.args.host c.args.hidden
    ((stands-changed c.self.inside.table c.set_hidden.new.self (vec_len c.self.inside.cells) (vec_len c.self.inside.cells) c.args.host (option_map (with_mark c.args.hidden)) c.self.invariant c.set_hidden.ensures).forest
    ∙ ap (λ (t : Kept). with_held (forest_kept t) c.args.host (option_map (with_mark c.args.hidden))) c.self.view_is)
