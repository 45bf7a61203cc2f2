use Rattle.commit_laws.proofs.TakeOver.{calm_is_idle, idle_again}
use Rattle.commit_laws.proofs.laws.idle_trees_stay.Goals as goal

pub returns : goal.returns
returns c =
    record {
      tree = λ s cs o levels settled idle reads fits. idle_again levels s cs o settled idle reads fits;
      calm = λ s o before calm. calm_is_idle s o before calm;
    }
