use Rattle.std.proofs.Common.{◌∙◌, ap, vec_len}
use Rattle.rx_host.specs.Kept.{children_kept}
use Rattle.rx_host.proofs.Settled.{next-is}
use Rattle.rx_host.proofs.tree.HostTree.next_sibling.Goals as goal

pub returns : goal.returns
returns c p before after is =
    c.after.ensures ∙ next-is c.self.inside.table (vec_len c.self.inside.cells) c.args.host p before after c.self.invariant (ap (λ t. children_kept t p) c.self.view_is ∙ is)
