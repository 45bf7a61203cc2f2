use Rattle.std.proofs.Common.{◌∙◌, ap}
use Rattle.rx_host.specs.Kept.{forest_kept}
use Rattle.rx_commit.proofs.Committed.{committed-here}
use Rattle.rx_commit.proofs.shown.Shown.commit.Goals as goal

pub returns : goal.returns
returns c = λ tree next stands is_commit is.
    record {
      hosts_are =
          committed-here tree next (forest_kept c.self.inside.hosts) (forest_kept c.apply_all.new.tree) c.prepared.inside.ops.items
          (ap (λ v. forest_kept v.hosts) c.self.view_is ∙ stands) (ap (λ p. p.ops) c.prepared.view_is ∙ is.ops_are) is_commit c.apply_all.ensures;
      passive_is = ap (λ p. p.passive) c.prepared.view_is ∙ is.passive_is;
    }
