use Rattle.commit_laws.proofs.TakeOver.{same_shape, rendered_again}
use Rattle.commit_laws.proofs.SameElements.{elements_tell}
use Rattle.commit_laws.proofs.laws.nothing_new_comes.Goals as goal

pub returns : goal.returns
returns c =
    record {
      shape = same_shape;
      subtree = λ s cs o levels before settled still fits. rendered_again levels s cs o before settled still fits;
      elements = elements_tell;
    }
